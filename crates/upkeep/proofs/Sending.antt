-- Datagrams that are sent one after another.
use Rattle.std.proofs.Common.{◌≡◌, ◌∙◌, ℕ, ◌+◌, ◌≤◌, List, [], ◌∷◌, ◌++◌, ap, append_assoc, arith, drop, length, length-append, refl, subst, sym, take}
use Rattle.std.proofs.Math.Seq.{take-append-add}
use Rattle.std.proofs.lemmas.List.{append-nil, take-append-le}
use Rattle.std.specs.Prelude.{Option, Ok, Err}
use Rattle.std.specs.List.{flat_map}
use Rattle.ot_base.specs.declared.address.Endpoint.{Endpoint}
use Rattle.ot_base.specs.declared.peer.Note.{Note}
use Rattle.ot_io.specs.Traffic.{Datagram, Moves, Traffic}
use Rattle.ot_io.proofs.Runs.{Moves-refl, Moves-trans}
use Rattle.sync_wire.specs.Batches.{batch_bytes, batch_len_of}
use Rattle.sync_wire.proofs.Cuts.{datagrams-next, datagrams-none}
use Rattle.upkeep.specs.Telling.{AreSent, outgoing, to_each}

-- Of all these datagrams those before the ones that are left were sent, so many.
pub record SentSoFar (all left : List Datagram) (wire wire' : Option Traffic) (count : ℕ) : Type 0 where
  pub sent : List Datagram
  pub whole : all ≡ sent ++ left
  pub many : count ≡ length sent
  pub moved : Moves wire wire' [] sent

pub sent_none : (all : List Datagram) (wire : Option Traffic) → SentSoFar all all wire wire 0
sent_none all wire = record { sent = []; whole = refl; many = refl; moved = Moves-refl wire }

pub sent_all : (all left : List Datagram) (wire wire' : Option Traffic) (count : ℕ) → SentSoFar all left wire wire' count → left ≡ [] → AreSent all wire wire' (Ok count)
sent_all all left wire wire' count before none =
    let is : all ≡ before.sent = before.whole ∙ ap (λ xs. before.sent ++ xs) none ∙ append-nil before.sent in
    let P : List Datagram → Type 0 = λ xs. Moves wire wire' [] xs in
    (before.many ∙ ap length (sym is), subst P (sym is) before.moved)

module _ (all left next rest : List Datagram) (wire wire1 wire2 : Option Traffic) (count n : ℕ) (before : SentSoFar all left wire wire1 count) (cut : left ≡ next ++ rest) where
  whole_cut : all ≡ before.sent ++ (next ++ rest)
  whole_cut = before.whole ∙ ap (λ xs. before.sent ++ xs) cut

  -- the next ones were sent too
  pub sent_more : AreSent next wire1 wire2 (Ok n) → SentSoFar all rest wire wire2 (count + n)
  sent_more more = record {
    sent = before.sent ++ next;
    whole = whole_cut ∙ sym (append_assoc before.sent next rest);
    many = omega (arith, before.many, more.0, length-append before.sent next);
    moved = Moves-trans wire wire1 wire2 [] before.sent [] next before.moved more.1;
  }

  -- or some of the next ones, and no more
  pub sent_some : AreSent next wire1 wire2 (Err n) → AreSent all wire wire2 (Err (count + n))
  sent_some stop =
      let front : take (count + n) all ≡ before.sent ++ take n next =
      ap (take (count + n)) whole_cut ∙ ap (λ k. take (k + n) (before.sent ++ (next ++ rest))) before.many
      ∙ take-append-add before.sent (next ++ rest) n ∙ ap (λ xs. before.sent ++ xs) (take-append-le n next rest (omega (arith, stop.0))) in
      let P : List Datagram → Type 0 = λ xs. Moves wire wire2 [] xs in (
        omega (arith, before.many, stop.0, ap length whole_cut, length-append before.sent (next ++ rest), length-append next rest),
        subst P (sym front) (Moves-trans wire wire1 wire2 [] before.sent [] (take n next) before.moved stop.1),
      )

-- for no notes nothing is sent
pub outgoing_none : (own : ℕ) (nodes : List Endpoint) (notes : List Note) → length notes ≡ 0 → outgoing own nodes notes ≡ []
outgoing_none own nodes [] none = ap (flat_map (to_each nodes)) (datagrams-none own)
outgoing_none own nodes (note ∷ notes) none = absurd (omega (arith, none))

-- for others the datagram of the next batch, to every node, and then what is sent for those behind
pub outgoing_next : (own : ℕ) (nodes : List Endpoint) (notes : List Note) → 1 ≤ length notes
    → outgoing own nodes notes ≡ to_each nodes (batch_bytes own (take (batch_len_of notes) notes)) ++ outgoing own nodes (drop (batch_len_of notes) notes)
outgoing_next own nodes notes some = ap (flat_map (to_each nodes)) (datagrams-next own notes some)

pub outgoing_cut : (own : ℕ) (nodes : List Endpoint) (notes front back : List Note) (len : ℕ) → 1 ≤ length notes → len ≡ batch_len_of notes → front ≡ take len notes → back ≡ drop len notes
    → outgoing own nodes notes ≡ to_each nodes (batch_bytes own front) ++ outgoing own nodes back
outgoing_cut own nodes notes front back len some is at_front at_back =
    outgoing_next own nodes notes some
    ∙ ap (λ n. to_each nodes (batch_bytes own (take n notes)) ++ outgoing own nodes (drop n notes)) (sym is)
    ∙ ap (λ ns. to_each nodes (batch_bytes own ns) ++ outgoing own nodes (drop len notes)) (sym at_front)
    ∙ ap (λ ns. to_each nodes (batch_bytes own front) ++ outgoing own nodes ns) (sym at_back)
