-- A replay stands, line by line, where its specification does.
use Rattle.std.proofs.Common.{◌≡◌, ℕ, List, [], refl, sym, ◌∙◌, ap, subst}
use Rattle.std.specs.Prelude.{Option, Some, None}
use Rattle.access_list.specs.Access.{Listing, admits_hash, fault_of}
use Rattle.bucket.specs.Shelf.{AllStand, Follows as Grown, ShelfShape}
use Rattle.bucket.proofs.FollowLemmas.{shelf_follows}
use Rattle.ot_base.specs.declared.access.Mode.{Mode}
use Rattle.ot_base.specs.declared.hash.InfoHash.{InfoHash}
use Rattle.ot_io.specs.declared.settings.ReplaySettings.{ReplaySettings}
use Rattle.ot_io.specs.declared.status.LineFault.TheVariants.{Trace}
use Rattle.tracker_model.specs.Grows.{GrowsAlone}
use Rattle.tracker_model.specs.Placed.{moves_of}
use Rattle.tracker_model.specs.Settings.{Settings}
use Rattle.tracker_model.specs.declared.entry.Entry.{Entry}
use Rattle.offline.specs.Follows.{AdmitAlike, AnswersAt, EndRefusedAt, EndRefusedIn, Follows, FollowsIn, IsShelfOf, MayEndAt, MayEndIn, RefusesIn, RefusesLine, Situation, phase_before}
use Rattle.offline.specs.Records.{record_placed}
use Rattle.offline.specs.Replay.{AnswersRecord, IsAnswered, IsEndRefused, IsRefused, ListsLine, MayEnd, ReplayState, listing, answering, bucket_settings, no_calls, state_before}
use Rattle.offline.specs.declared.command.Fault.{Fault}
use Rattle.offline.specs.declared.command.Fault.TheVariants as because
use Rattle.offline.specs.declared.phase.Phase.{Phase}
use Rattle.offline.specs.declared.phase.Phase.TheVariants as phase
use Rattle.offline.proofs.Alike.{line_alike}

-- what the phase and the shelf stand for: in the list nobody has called yet, and behind it each
-- bucket stands for its history
abbrev pub MeetsIn : ReplaySettings → Phase → ShelfShape → ReplayState → Type 0
MeetsIn s (phase.Listing list) shelf (listing read) = (list ≡ read) × AllStand (no_calls s.bits) shelf
MeetsIn s (phase.Listing list) shelf (answering access histories) = ⊥
MeetsIn s (phase.Answering access) shelf (listing read) = ⊥
MeetsIn s (phase.Answering access) shelf (answering whole histories) = AdmitAlike access whole × AllStand histories shelf

pub record Meets (s : ReplaySettings) (at : Situation) (state : ReplayState) : Type 0 where
  pub settings : at.settings ≡ s
  pub of : IsShelfOf s at.shelf
  pub meets : MeetsIn s at.phase at.shelf state

-- a record that is answered at a shelf is answered after the histories that it stands for
answers_record : (s : ReplaySettings) (access whole : Option Listing) (shelf shelf' : ShelfShape) (histories : List (List Entry)) (line text : List ℕ)
    → IsShelfOf s shelf → AdmitAlike access whole → AllStand histories shelf → AnswersAt s access shelf line text shelf'
    → (next : List (List Entry)) × AnswersRecord s whole histories line text next × AllStand next shelf'
answers_record s access whole shelf shelf' histories line text of alike stand answers =
    let placed = record_placed s.bits answers.plan in
    let grown : Grown answers.minute shelf placed answers.answers shelf' histories = shelf_follows answers.minute shelf shelf' placed answers.answers histories stand answers.made in
    let GrownBy : Settings → Type 0 = λ g. GrowsAlone g 0 histories (moves_of 0 answers.minute placed answers.answers) grown.next in (
      grown.next,
      record {
        minute = answers.minute;
        plan = answers.plan;
        answers = answers.answers;
        planned = line_alike access whole alike s line answers.minute answers.plan answers.planned;
        made = record { one_each = grown.answered; grown = subst GrownBy of.settings grown.grows };
        written = answers.written;
      },
      grown.stands,
    )

step_in : (s : ReplaySettings) (p p' : Phase) (shelf shelf' : ShelfShape) (state : ReplayState) (line text : List ℕ)
    → IsShelfOf s shelf → MeetsIn s p shelf state → FollowsIn s p shelf line text p' shelf'
    → (next : ReplayState) × IsAnswered s state line text next × IsShelfOf s shelf' × MeetsIn s p' shelf' next
step_in s (phase.Listing list) (phase.Listing longer) shelf shelf' (listing read) line text of meets follows =
    let Lists : Listing → Type 0 = λ l. ListsLine l line longer in
    let Of : ShelfShape → Type 0 = λ x. IsShelfOf s x in
    let Stand : ShelfShape → Type 0 = λ x. AllStand (no_calls s.bits) x in
    (listing longer, (follows.0, subst Lists meets.0 follows.1), subst Of (sym follows.2) of, (refl, subst Stand (sym follows.2) meets.1))
step_in s (phase.Listing list) (phase.Answering access) shelf shelf' (listing read) line text of meets follows =
    let Alike : Listing → Type 0 = λ l. AdmitAlike access (Some l) in
    let Of : ShelfShape → Type 0 = λ x. IsShelfOf s x in
    let Stand : ShelfShape → Type 0 = λ x. AllStand (no_calls s.bits) x in
    (answering (Some read) (no_calls s.bits), (follows.0, follows.1, refl, refl), subst Of (sym follows.3) of, (subst Alike meets.0 follows.2, subst Stand (sym follows.3) meets.1))
step_in s (phase.Listing list) p' shelf shelf' (answering whole histories) line text of meets follows = absurd meets
step_in s (phase.Answering access) p' shelf shelf' (listing read) line text of meets follows = absurd meets
step_in s (phase.Answering access) (phase.Listing list) shelf shelf' (answering whole histories) line text of meets follows = absurd follows
step_in s (phase.Answering access) (phase.Answering access') shelf shelf' (answering whole histories) line text of meets follows =
    let Alike : Option Listing → Type 0 = λ a. AdmitAlike a whole in
    let grown = answers_record s access whole shelf shelf' histories line text of meets.0 meets.1 follows.1 in
    (answering whole grown.0, (refl, grown.1), follows.1.stays, (subst Alike (sym follows.0) meets.0, grown.2))

pub step : (s : ReplaySettings) (at next : Situation) (state : ReplayState) (line text : List ℕ) → Meets s at state → Follows at line text next
    → (then : ReplayState) × IsAnswered s state line text then × Meets s next then
step s at next state line text meets follows =
    let FollowsBy : ReplaySettings → Type 0 = λ x. FollowsIn x at.phase at.shelf line text next.phase next.shelf in
    let then = step_in s at.phase next.phase at.shelf next.shelf state line text meets.of meets.meets (subst FollowsBy meets.settings follows.1) in
    (then.0, then.1, record { settings = follows.0 ∙ meets.settings; of = then.2; meets = then.3 })

refused_in : (s : ReplaySettings) (p : Phase) (shelf : ShelfShape) (state : ReplayState) (line : List ℕ) (why : Fault) → MeetsIn s p shelf state → RefusesIn p line why → IsRefused state line why
refused_in s (phase.Listing list) shelf (listing read) line (because.List fault) meets refused =
    let Refused : Listing → Type 0 = λ l. fault_of l.hashes line ≡ Some fault in
    (refused.0, subst Refused meets.0 refused.1)
refused_in s (phase.Listing list) shelf (listing read) line (because.Line fault) meets refused = absurd refused
refused_in s (phase.Listing list) shelf (answering whole histories) line why meets refused = absurd meets
refused_in s (phase.Answering access) shelf (listing read) line why meets refused = absurd meets
refused_in s (phase.Answering access) shelf (answering whole histories) line (because.List fault) meets refused = absurd refused
refused_in s (phase.Answering access) shelf (answering whole histories) line (because.Line (Trace fault)) meets refused = refused

pub stop : (s : ReplaySettings) (at : Situation) (state : ReplayState) (line : List ℕ) (why : Fault) → Meets s at state → RefusesLine at line why → IsRefused state line why
stop s at state line why meets refused = refused_in s at.phase at.shelf state line why meets.meets refused

may_end_in : (s : ReplaySettings) (p : Phase) (shelf : ShelfShape) (state : ReplayState) → MeetsIn s p shelf state → MayEndIn p → MayEnd state
may_end_in s (phase.Listing list) shelf state meets may = absurd may
may_end_in s (phase.Answering access) shelf (listing read) meets may = absurd meets
may_end_in s (phase.Answering access) shelf (answering whole histories) meets may = tt

pub may_end : (s : ReplaySettings) (at : Situation) (state : ReplayState) → Meets s at state → MayEndAt at → MayEnd state
may_end s at state meets may = may_end_in s at.phase at.shelf state meets.meets may

end_refused_in : (s : ReplaySettings) (p : Phase) (shelf : ShelfShape) (state : ReplayState) (why : Fault) → MeetsIn s p shelf state → EndRefusedIn p why → IsEndRefused state why
end_refused_in s (phase.Listing list) shelf (listing read) why meets refused = refused
end_refused_in s (phase.Listing list) shelf (answering whole histories) why meets refused = absurd meets
end_refused_in s (phase.Answering access) shelf state why meets refused = absurd refused

pub stop_end : (s : ReplaySettings) (at : Situation) (state : ReplayState) (why : Fault) → Meets s at state → EndRefusedAt at why → IsEndRefused state why
stop_end s at state why meets refused = end_refused_in s at.phase at.shelf state why meets.meets refused

-- before the first line
first_in : (s : ReplaySettings) (access : Option Mode) (shelf : ShelfShape) → AllStand (no_calls s.bits) shelf → MeetsIn s (phase_before access) shelf (state_before s.bits access)
first_in s None shelf stand = ((λ hash. refl), stand)
first_in s (Some mode) shelf stand = (refl, stand)

pub meets_first : (s : ReplaySettings) (at : Situation) → at.settings ≡ s → at.phase ≡ phase_before s.access → IsShelfOf s at.shelf → AllStand (no_calls s.bits) at.shelf → Meets s at (state_before s.bits s.access)
meets_first s at settings begins of stand =
    let MeetsBy : Phase → Type 0 = λ p. MeetsIn s p at.shelf (state_before s.bits s.access) in
    record { settings = settings; of = of; meets = subst MeetsBy (sym begins) (first_in s s.access at.shelf stand) }
