-- The endpoints are read in order, and each has its place.
use Rattle.std.proofs.Common.{◌≡◌, ℕ, ◌<◌, ◌==◌, true, List, length, map, get_or, refl, sym, ◌∙◌, arith}
use Rattle.std.specs.Prelude.{Option, None}
use Rattle.std.specs.Iterator.Adapters.{enumerate_count, enumerate_source, enumerate_steps}
use Rattle.std.specs.List.{enumerate_from, slice_split}
use Rattle.std.specs.Str.Iter.{split_has_more, split_pattern, split_steps, split_text}
use Rattle.std.specs.Str.Pattern.{FindsChar}
use Rattle.std.proofs.lemmas.Iterator.{YieldsList}
use Rattle.std.proofs.lemmas.Iterator.Consumers.{YieldsList-at, YieldsList-end, YieldsList-from_enumerate, YieldsList-turn}
use Rattle.std.proofs.lemmas.Iterator.Splits.{YieldsList-from_str_split}
use Rattle.std.proofs.lemmas.List.{length-map, length_push}
use Rattle.std.proofs.lemmas.List.FromFn.{length-enumerate_from}
use Rattle.ot_base.specs.declared.address.Endpoint.{Endpoint}
use Rattle.command_line.specs.Values.{endpoint_value}
use Rattle.command_line.proofs.NodeLemmas.{AreFilled-all, AreFilled-more, at_turn, crowded, unread}
use Rattle.command_line.proofs.values.read_nodes.Goals.{In-Some}
use Rattle.command_line.proofs.values.read_nodes.Goals as goal

abbrev texts_of : List ℕ → List (List ℕ)
texts_of text = slice_split (λ b. b == 44) text

-- the loop goes over the texts between the commas, with their numbers
numbered : {s : _} {e i : _} (text : List ℕ) → split_text s ≡ text → split_has_more s ≡ true → split_pattern {P = ℕ} s ≡ 44 → enumerate_source e ≡ s → enumerate_count e ≡ 0 → i ≡ e → YieldsList (enumerate_steps (split_steps FindsChar (λ a b. b ≡ a))) (λ p. (p.0, p.1.now)) i (enumerate_from 0 (texts_of text))
numbered text a b c d e f = YieldsList-at f (YieldsList-from_enumerate (YieldsList-at d (YieldsList-from_str_split 44 text (omega arith) a b c)) e)

abbrev all_of : List ℕ → List (Option Endpoint)
all_of text = map endpoint_value (texts_of text)

-- what a turn reads is the endpoint at its number
turn : (c : In-Some) → (c.in-Some.i ≡ length c.loop-i.yielded) × (length c.loop-i.yielded < length (all_of c.args.text.now)) × (get_or (all_of c.args.text.now) (length c.loop-i.yielded) None ≡ endpoint_value c.in-Some.endpoint.now)
turn c =
    let road = numbered c.args.text.now c.split.ensures.text c.split.ensures.has_more c.split.ensures.pattern c.enumerate-i-items.ensures.source c.enumerate-i-items.ensures.count c.into_iter-i-iterator.ensures.into_iter_gives in
    at_turn (texts_of c.args.text.now) _ _ _ (YieldsList-turn road c.loop-i.yielded _ c.loop-i.yielded_by _ _ (c.in-Some.i, c.in-Some.endpoint) c.in-Some.is c.next.ensures.steps)

pub loop-i-init : goal.loop-i-init
loop-i-init c = record { room = omega arith; stand = refl; read = refl }

pub returns-then-i-eq-NODES : goal.returns-then-i-eq-NODES
returns-then-i-eq-NODES c =
    let now = turn (goal.at.returns-then-i-eq-NODES c).In-Some in
    crowded (all_of c.args.text.now) (omega (arith, now.0, now.1, c.if-i-eq-NODES.true))

pub returns-in_err-read_endpoint : goal.returns-in_err-read_endpoint
returns-in_err-read_endpoint c =
    let now = turn (goal.at.returns-in_err-read_endpoint c).In-Some in
    c.from_residual.ensures ∙ unread (all_of c.args.text.now) (length c.loop-i.yielded) now.1 (now.2 ∙ sym c.in_err-read_endpoint.ensures)

pub offset_bounds-nodes-i : goal.offset_bounds-nodes-i
offset_bounds-nodes-i c = omega (arith, (turn (goal.at.offset_bounds-nodes-i c).In-Some).0, c.loop-i.invariant.room)

pub bounds-nodes-i : goal.bounds-nodes-i
bounds-nodes-i c = omega (arith, (turn (goal.at.bounds-nodes-i c).In-Some).0, c.if-i-eq-NODES.false, c.loop-i.invariant.room)

pub loop-i-preserved : goal.loop-i-preserved
loop-i-preserved c =
    let now = turn (goal.at.loop-i-preserved c).In-Some in
    let room : length c.loop-i.yielded < 16 = omega (arith, now.0, c.if-i-eq-NODES.false, c.loop-i.invariant.room) in
    rw (length_push c.loop-i.yielded (c.in-Some.i, c.in-Some.endpoint)) (rw now.0
    (AreFilled-more (all_of c.args.text.now) c.loop-i.nodes (length c.loop-i.yielded) c.in_ok-read_endpoint.field-0 c.loop-i.invariant now.1 room (now.2 ∙ sym c.in_ok-read_endpoint.ensures)))

pub returns : goal.returns
returns c =
    let road = numbered c.args.text.now c.split.ensures.text c.split.ensures.has_more c.split.ensures.pattern c.enumerate-i-items.ensures.source c.enumerate-i-items.ensures.count c.into_iter-i-iterator.ensures.into_iter_gives in
    let end = YieldsList-end road c.loop-i.yielded _ c.loop-i.yielded_by _ _ c.in-None.is c.next.ensures.steps in
    let texts = texts_of c.args.text.now in
    AreFilled-all (all_of c.args.text.now) c.loop-i.nodes (length c.loop-i.yielded) c.loop-i.invariant (omega (arith, end.1, length-enumerate_from 0 texts, length-map texts endpoint_value))
