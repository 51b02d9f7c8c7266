-- Each scrape is well formed, whatever its hash, and it names a torrent.
use Rattle.std.proofs.Common.{◌∙◌, subst, sym}
use Rattle.tracker_core.specs.UdpPlan.{Names}
use Rattle.tracker_core.proofs.Scrapes.{names_request, scrapes-well-formed}
use Rattle.tracker_core.proofs.udp_plan.plan_udp.Goals as goal

pub returns-then-check-clause-formed : goal.returns-then-check-clause-formed
returns-then-check-clause-formed c = scrapes-well-formed _

pub returns-then-check-clause-complete : goal.returns-then-check-clause-complete
returns-then-check-clause-complete c = subst Names (sym c.read_request.ensures ∙ c.in-Scrape.is) (names_request _)
