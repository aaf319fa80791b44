-- After every run of calls from a newly opened session, the session is not barred and what is struck is the tally.
-- Shows v t: the session v is not barred, and t is what is struck in it
use Rattle.std.proofs.Common.{◌≡◌, ℕ, Bool, true, false, cond, not, ◌&&◌, eqb, ltb, leb, List, [], ◌∷◌, is_ok, Some, None, Ok, Err, Result, refl, ap, ◌∙◌, subst, arith, le→leb, ltb→lt, leb→le, nltb→le}
use mathlib.Core.Bool.{not-not}
use lib.Dec.{eqb_refl}
use Rattle.bits.proofs.Tests.{and_i, not_i, same_T, to_true}
use Rattle.meaning.specs.Meaning.{Meaning}
use Rattle.meaning.specs.Limits.{within}
use Rattle.meaning.specs.declared.refusal.Refusal.{Refusal}
use Rattle.meaning.specs.declared.refusal.Refusal.TheVariants.{NoSuchItem, NoSuchOption, AlreadyStruck, NotStruck}
use Rattle.levels.specs.Sets.{Set}
use Rattle.levels.specs.declared.level.Level.{Level}
use Rattle.runs.specs.State.{State, nothing, is_option, unstruck, opened}
use Rattle.runs.specs.Edits.{edit_due, edited, struck_by, chosen_by, restored_by, without_one}
use Rattle.runs.specs.Screening.{Room, screen_due, Ends, Screens}
use Rattle.runs.specs.Runs.{Did, Step, Run, calls, tally, tallied_from, tallied}
use Rattle.runs.specs.Law.{After}
use Rattle.runs.specs.declared.call.Call.{Call}
use Rattle.runs.specs.declared.call.Call.TheVariants.{Strike, Choose, Restore, Screen}
use Rattle.runs.specs.Answers.{Answer}

abbrev pub Shows : State → Set → Type 0
Shows v t = (v.barred ≡ false) × (v.struck ≡ t)

shows_same : (v w : State) (t : Set) → w ≡ v → Shows v t → Shows w t
shows_same v w t e h = (ap (λ (s : State). s.barred) e ∙ h.0, ap (λ (s : State). s.struck) e ∙ h.1)

leb_not : (n i : ℕ) → leb n i ≡ not (ltb i n)
leb_not n i =
    same_T (leb n i) (not (ltb i n))
    (λ t. not_i (ltb i n) (λ u. let le = leb→le n i t in let lt = ltb→lt i n u in omega arith))
    (λ t. le→leb n i (nltb→le i n t))

due_ok : (x y bad : Bool) (last : Refusal)
    → is_ok {T = Unit {0}} (cond (not x) (Err NoSuchItem) (cond (not y) (Err NoSuchOption) (cond bad (Err last) (Ok tt)))) ≡ ((x && y) && not bad)
due_ok true true true last = refl
due_ok true true false last = refl
due_ok true false bad last = refl
due_ok false y bad last = refl

-- in a session that is not barred, an edit is done just where the tally counts it
edit_ok : (m : Meaning) (v : State) (i a : ℕ) (bad : Bool) (last : Refusal) → v.barred ≡ false
    → is_ok (edit_due m v i a bad last) ≡ (is_option m i a && not bad)
edit_ok m v i a bad last b =
    rw (b, leb_not m.items i, leb_not (m.options i) a) (due_ok (ltb i m.items) (ltb a (m.options i)) bad last)

chosen_shows : (ok : Bool) (v after : State) → v.barred ≡ false → after.barred ≡ false
    → Shows (cond ok after v) (cond ok after.struck v.struck)
chosen_shows true v after b c = (c, refl)
chosen_shows false v after b c = (b, refl)

edit_shows : (m : Meaning) (v after v' : State) (i a : ℕ) (bad : Bool) (last : Refusal) → v.barred ≡ false → after.barred ≡ false
    → v' ≡ edited (edit_due m v i a bad last) v after → Shows v' (cond (is_option m i a && not bad) after.struck v.struck)
edit_shows m v after v' i a bad last b c e =
    let ok = edit_ok m v i a bad last b in
    shows_same (cond (is_option m i a && not bad) after v) v' _ (e ∙ ap (λ (x : Bool). cond x after v) ok)
    (chosen_shows (is_option m i a && not bad) v after b c)

ends_shows : (l : Level) (m : Meaning) (q q' : Room) (v v' : State) (r : Answer) → v.barred ≡ false
    → Ends l m q v r q' v' → Shows v' v.struck
ends_shows l m q q' v v' (Ok None) b d = absurd d
ends_shows l m q q' v v' (Ok (Some o)) b d = (d.barred ∙ b, d.struck)
ends_shows l m q q' v v' (Err e) b d = shows_same v v' v.struck d.2.same (b, refl)

screen_shows : (due : Result Level Refusal) (m : Meaning) (q q' : Room) (v v' : State) (r : Answer) → v.barred ≡ false
    → Screens due m q v r q' v' → Shows v' v.struck
screen_shows (Ok l) m q q' v v' r b d = ends_shows l m q q' v v' r b d
screen_shows (Err e) m q q' v v' r b d = shows_same v v' v.struck d.1 (b, refl)

step_shows : (m : Meaning) (c : Call) (q q' : Room) (v v' : State) (r : Answer) → v.barred ≡ false
    → Did m c q v r q' v' → Shows v' (tally m c v.struck)
step_shows m (Strike i a) q q' v v' r b d = edit_shows m v (struck_by v i a) v' i a (v.struck i a) AlreadyStruck b b d.1
step_shows m (Choose i a) q q' v v' r b d = edit_shows m v (chosen_by m v i a) v' i a (v.struck i a) AlreadyStruck b b d.1
step_shows m (Restore i a) q q' v v' r b d =
    subst (λ (x : Bool). Shows v' (cond (is_option m i a && x) (without_one v.struck i a) v.struck)) (not-not (v.struck i a))
    (edit_shows m v (restored_by m v i a) v' i a (not (v.struck i a)) NotStruck b b d.1)
step_shows m (Screen level) q q' v v' r b d = screen_shows (screen_due m v.barred level q) m q q' v v' r b d

run_shows : (m : Meaning) (ss : List Step) (v v' : State) (t : Set) → Shows v t → Run m v ss v' → Shows v' (tallied_from m t (calls ss))
run_shows m [] v v' t h e = shows_same v v' t e h
run_shows m (s ∷ ss) v v' t h d =
    let one = step_shows m s.call s.handed s.left v d.0 s.answer h.0 d.1 in
    run_shows m ss d.0 v' (tally m s.call t) (one.0, one.1 ∙ ap (tally m s.call) h.1) d.2

pub after_shows : (m : Meaning) (ss : List Step) (v : State) → After m ss v → Shows v (tallied m (calls ss))
after_shows m ss v h =
    let n : ℕ = m.edition in
    let own : (within n 9999 && eqb n n) ≡ true =
    to_true (within n 9999 && eqb n n) (and_i (within n 9999) (eqb n n)
    (and_i (leb 1 n) (leb n 9999) (le→leb 1 n h.edition_least) (le→leb n 9999 h.edition_most)) (eqb_refl n)) in
    let fresh : State = record { barred = false; struck = nothing; kept = unstruck m nothing } in
    let open_now : opened m n ≡ fresh = rw own refl in
    run_shows m ss (opened m n) v nothing (shows_same fresh (opened m n) nothing open_now (refl, refl)) h.run
