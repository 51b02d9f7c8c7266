use Rattle.full_scrape.proofs.PieceLemmas.{body_canonical, body_of_rows}
use Rattle.full_scrape.proofs.laws.pieces_together.Goals as goal

pub returns : goal.returns
returns c = record { body = body_of_rows; canonical = body_canonical }
