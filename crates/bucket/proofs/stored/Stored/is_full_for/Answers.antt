-- An endpoint is new where it has no place.
use Rattle.std.proofs.Common.{not, ◌&&◌, ap, sym, ◌∙◌}
use Rattle.std.specs.List.{find}
use Rattle.std.specs.Option.{is_none}
use Rattle.std.proofs.lemmas.Bool.Decides.{Decides-eqb}
use Rattle.tracker_model.proofs.Cases.{and_true}
use Rattle.swarm.specs.Peers.{is_of}
use Rattle.swarm.specs.Shape.{peer_count}
use Rattle.bucket.proofs.JoinLemmas.{new_by, peers_for}
use Rattle.bucket.proofs.stored.Stored.is_full_for.Goals as goal

pub returns-then-len-limit : goal.returns-then-len-limit
returns-then-len-limit c =
    let who = c.args.who.now in
    let swarm = c.args.self.now.swarm in
    let is_new = is_none (find (is_of who) (peers_for who swarm)) in
    ap not c.has.ensures ∙ sym (new_by who (peers_for who swarm)) ∙ sym (and_true is_new)
    ∙ ap (λ b. is_new && b) (sym ((Decides-eqb (peer_count swarm) c.args.limit).1 (sym c.len.ensures.len ∙ c.if-len-limit.true)))
