-- What the scans of the buckets tell.
use Rattle.std.proofs.Common.{◌≡◌, ◌≢◌, ℕ, ◌+◌, ◌*◌, ◌^◌, ◌<◌, ◌≤◌, List, [], ◌∷◌, ◌++◌, length, map, take, refl, sym, ap, subst, ◌∙◌, ⊎_elim, append_assoc, get_or, set, length-set, get_or-set_same, get_or-set_other, arith}
use Rattle.std.specs.Prelude.{reverse}
use Rattle.std.specs.List.{sum_by}
use Rattle.std.proofs.lemmas.Bool.{cases_lt}
use Rattle.std.proofs.lemmas.List.{reverse-append, take_more_set}
use Rattle.std.proofs.lemmas.List.Sums.{sum_by_push}
use Rattle.ot_base.specs.declared.minute.Minute.{Minute}
use Rattle.ot_base.specs.declared.peer.Row.{Row}
use Rattle.tracker_model.specs.Counted.{rows_of}
use Rattle.tracker_model.specs.Grows.{history_at}
use Rattle.tracker_model.specs.Legal.{IsLegalHistory, IsLegalPast}
use Rattle.tracker_model.specs.Settings.{Settings}
use Rattle.tracker_model.specs.declared.answer.Answer.TheVariants.{Rows}
use Rattle.tracker_model.specs.declared.call.Call.TheVariants.{Scan}
use Rattle.tracker_model.specs.declared.entry.Entry.{Entry}
use Rattle.shards.specs.Passing.{MadeByPass}
use Rattle.shards.specs.Shape.{PassShape}
use Rattle.load_model.specs.Sums.{IsWithin, added, totals_in}
use Rattle.load_model.specs.Text.{totals_of}
use Rattle.load_model.specs.declared.totals.Totals.{Totals}
use Rattle.drill.specs.Scanning.{AreScanned, IsScanned, IsScanOf}

-- ---- one scan

same_rows : (xs ys : List Row) → Rows xs ≡ Rows ys → xs ≡ ys
same_rows xs ys e = cc

-- a legal scan tells the rows as they stand
rows_right : (g : Settings) (before : List Entry) (caller : ℕ) (minute : Minute) (rows : List Row) (history : List Entry) → history ≡ before ++ record { caller = caller; minute = minute; call = Scan; answer = Rows rows } ∷ [] → IsLegalHistory g history → rows ≡ rows_of (reverse history)
rows_right g before caller minute rows history is legal =
    let x : Entry = record { caller = caller; minute = minute; call = Scan; answer = Rows rows } in
    let turned : reverse history ≡ x ∷ reverse before = ap reverse is ∙ reverse-append before (x ∷ []) in
    let right : IsLegalPast g (x ∷ reverse before) = subst (IsLegalPast g) turned legal in
    same_rows rows (rows_of (x ∷ reverse before)) right.1 ∙ sym (ap rows_of turned)

pub one_scanned : (minute : Minute) (bucket : ℕ) (rows : List Row) (old new : PassShape) → MadeByPass old bucket minute Scan (Rows rows) new → IsScanOf minute bucket rows old new
one_scanned minute bucket rows old new made =
    let x : Entry = record { caller = old.caller; minute = minute; call = Scan; answer = Rows rows } in
    let before = history_at old.seen bucket in
    let step = made.step in
    let here : history_at new.seen bucket ≡ before ++ (step.others ++ x ∷ []) =
    ap (λ h. history_at h bucket) step.grown ∙ get_or-set_same old.seen bucket (before ++ (step.others ++ x ∷ [])) [] step.within in
    record {
      pass = made.pass;
      within = step.within;
      seen = step.grown ∙ ap (set old.seen bucket) (sym here);
      scanned = record { others = step.others; scan = x; grown = here; apart = step.between; made = record { took = refl; at = refl; calls = refl } };
      told = rows_right old.shards.settings (before ++ step.others) old.caller minute rows (history_at new.seen bucket) (here ∙ sym (append_assoc before step.others (x ∷ []))) step.legal;
    }

-- ---- more scans

pub totals_of_one_more : (hs : List (List Entry)) (h : List Entry) → added (totals_in hs) (totals_of (rows_of (reverse h))) ≡ totals_in (hs ++ h ∷ [])
totals_of_one_more hs h =
    let more = λ (f : List Entry → ℕ). sym (sum_by_push f hs h) in
    λ k. record {
      torrents = more (λ l. length (rows_of (reverse l))) k;
      complete = more (λ l. sum_by (λ (row : Row). row.counts.complete) (rows_of (reverse l))) k;
      downloaded = more (λ l. sum_by (λ (row : Row). row.counts.downloaded) (rows_of (reverse l))) k;
      incomplete = more (λ l. sum_by (λ (row : Row). row.counts.incomplete) (rows_of (reverse l))) k;
    }

pub none_scanned : (minute : Minute) (pass : PassShape) (totals : Totals) → totals ≡ totals_in [] → AreScanned minute 0 totals pass pass
none_scanned minute pass totals none = record {
  pass = refl;
  buckets = refl;
  each = λ b below. absurd (omega arith);
  others = λ b above. refl;
  counted = none;
}

module _ (minute : Minute) (n : ℕ) (totals total : Totals) (rows : List Row) (old middle new : PassShape) (first : AreScanned minute n totals old middle) (then : IsScanOf minute n rows middle new) (more : total ≡ added totals (totals_of rows)) where
  elsewhere : (b : ℕ) → b ≢ n → history_at new.seen b ≡ history_at middle.seen b
  elsewhere b apart = ap (λ h. history_at h b) then.seen ∙ get_or-set_other middle.seen n b (history_at new.seen n) [] apart

  here : IsScanned minute.0 (old.caller ∷ old.joined) (history_at old.seen n) (history_at new.seen n)
  here =
      let there = subst (λ (p : PassShape). IsScanned minute.0 (p.caller ∷ p.joined) (history_at middle.seen n) (history_at new.seen n)) first.pass then.scanned in
      subst (λ h. IsScanned minute.0 (old.caller ∷ old.joined) h (history_at new.seen n)) (first.others n (omega arith)) there

  earlier : (b : ℕ) → b < n → IsScanned minute.0 (old.caller ∷ old.joined) (history_at old.seen b) (history_at new.seen b)
  earlier b below = subst (IsScanned minute.0 (old.caller ∷ old.joined) (history_at old.seen b)) (sym (elsewhere b (λ same. absurd (omega arith)))) (first.each b below)

  each_by : (b : ℕ) → b < n + 1 → IsScanned minute.0 (old.caller ∷ old.joined) (history_at old.seen b) (history_at new.seen b)
  each_by b below =
      ⊎_elim
      (λ (before : b < n). earlier b before)
      (λ (after : n ≤ b). let same : n ≡ b = omega arith in subst (λ k. IsScanned minute.0 (old.caller ∷ old.joined) (history_at old.seen k) (history_at new.seen k)) same here)
      (cases_lt b n)

  taken : take (n + 1) new.seen ≡ take n middle.seen ++ history_at new.seen n ∷ []
  taken = ap (take (n + 1)) then.seen ∙ take_more_set middle.seen n (history_at new.seen n) then.within

  pub one_more_scanned : AreScanned minute (n + 1) total old new
  one_more_scanned = record {
    pass = then.pass ∙ ap (λ (p : PassShape). record p { seen = new.seen }) first.pass;
    buckets = ap length then.seen ∙ length-set middle.seen n (history_at new.seen n) ∙ first.buckets;
    each = each_by;
    others = λ b above. elsewhere b (λ same. absurd (omega arith)) ∙ first.others b (omega arith);
    counted = more ∙ (λ k. added (first.counted k) (totals_of (then.told k)))
        ∙ totals_of_one_more (take n middle.seen) (history_at new.seen n)
        ∙ ap totals_in (sym taken);
  }

-- ---- their size

pub sum_within : (i : ℕ) (t u : Totals) → IsWithin (i * 2 ^ 96) t → IsWithin (2 ^ 96) u → IsWithin ((i + 1) * 2 ^ 96) (added t u)
sum_within i t u so_far one = record {
  torrents = (let a = so_far.torrents in let b = one.torrents in omega arith);
  complete = (let a = so_far.complete in let b = one.complete in omega arith);
  downloaded = (let a = so_far.downloaded in let b = one.downloaded in omega arith);
  incomplete = (let a = so_far.incomplete in let b = one.incomplete in omega arith);
}
