use Rattle.std.proofs.Common.{◌<◌, [], ◌∷◌, ◌∙◌, sym, subst, arith, length, length-append}
use Rattle.std.proofs.lemmas.Option.{get_or_from_slice_get}
use Rattle.ot_base.specs.declared.hash.InfoHash.{InfoHash}
use Rattle.tracker_model.specs.Placed.{bucket_in}
use Rattle.tracker_model.specs.declared.answer.Answer.TheVariants.{Stats}
use Rattle.tracker_model.specs.declared.call.Call.TheVariants.{Scrape}
use Rattle.request_handler.proofs.Scraping.{counts_more}
use Rattle.request_handler.proofs.datagram.counts_of.Goals as goal

pub loop-i-preserved : goal.loop-i-preserved
loop-i-preserved g c =
    let t = g.T.Tracker in
    let none : InfoHash = record { 0 = [] } in
    let hashes = c.args.hashes.now in
    let i = c.loop-i.i in
    let scraped = c.scrape-known in
    let before = c.loop-i.invariant in
    let bits = t.bits c.loop-i.tracker in
    let within : i < length hashes = omega (arith, c.loop-i-test.true, c.len-i-end.ensures.value) in
    let made = subst (λ h. t.made c.loop-i.tracker (bucket_in bits h) c.args.minute (Scrape h) (Stats scraped.result.0 scraped.result.1) scraped.new.self)
    (sym (get_or_from_slice_get hashes i c.get.result none c.get.ensures)) scraped.ensures.made in record {
      settings = scraped.ensures.settings ∙ before.settings;
      bits = scraped.ensures.bits ∙ before.bits;
      many = rw c.push.ensures (omega (arith, length-append c.loop-i.counts (scraped.result.0 ∷ []), before.many));
      scraped = counts_more t.made c.args.minute c.args.tracker.now c.loop-i.tracker scraped.new.self (t.bits c.args.tracker.now) bits hashes i none c.loop-i.counts c.push.new.self scraped.result.0 scraped.result.1
          within before.bits before.scraped made c.push.ensures;
    }
