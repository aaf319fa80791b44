-- The nine junctions, each by the options that are crossed out, in an order in which each fails at its turn.
use Rattle.std.proofs.Common.{◌≡◌, ℕ, zero, suc, ◌<◌, Bool, true, false, not, ◌&&◌, T, eqb, ltb, leb, List, [], ◌∷◌, Ok, refl, ap, ◌∙◌, arith, lit<, ltb→lt, leb→le}
use Rattle.std.proofs.lemmas.Bool.{and_parts, le-ltb}
use Rattle.bits.specs.Below.{count, every, some}
use Rattle.bits.proofs.Belows.{every_e}
use Rattle.bits.proofs.Tests.{and_i, not_e, of_true, eqb_no}
use Rattle.meaning.specs.Meaning.{Lawful}
use Rattle.meaning.specs.Grid.{grid_of, contents_right}
use Rattle.meaning.specs.Limits.{within}
use Rattle.meaning.specs.Pairs.{start}
use Rattle.meaning.proofs.GridLaws.{grid_lawful}
use Rattle.levels.specs.Sets.{Set}
use Rattle.levels.specs.declared.level.Level.TheVariants.{Arc, RestrictedPath, MaxRestrictedPath}
use Rattle.runs.specs.declared.call.Call.TheVariants.{Strike, Choose, Restore, Screen}
use Rattle.runs.specs.Answers.{screened}
use Rattle.runs.specs.Runs.{said}
use Rattle.runs.specs.Edits.{strike_due}
use Rattle.runs.specs.Law.{Layout}
use Rattle.worked.specs.Junctions.{padded, j1_rows, j2_rows, j3_rows, j1, j2, j3, j4, j6, j7}
use Rattle.worked.specs.Nine.{Accepts, Leaves, Nine}
use Rattle.worked.proofs.Certificates.{keeps, keeps_so_many, finds_none, finds_none_ever, made_shows, rest}
use Rattle.worked.proofs.OneHint.{names}

-- right contents make a lawful book
lawful : (e n : ℕ) (counts links rows : List ℕ) → (within n 32 && contents_right n counts links rows) ≡ true → Lawful (grid_of e n counts links rows)
lawful e n counts links rows ok =
    let parts = and_parts (within n 32) (contents_right n counts links rows) ok in
    let few = and_parts (leb 1 n) (leb n 32) parts.0 in
    grid_lawful (record {
      edition = e;
      items = n;
      counts = record { ref_ptr = (0, 0); now = counts };
      links = record { ref_ptr = (0, 0); now = links };
      rows = record { ref_ptr = (0, 0); now = rows };
    }) (leb→le 1 n (of_true few.0), leb→le n 32 (of_true few.1)) parts.1

law1 : Lawful j1
unfolding every start
law1 = lawful 7 3 (2 ∷ 4 ∷ 4 ∷ []) (6 ∷ 5 ∷ 3 ∷ []) j1_rows refl

law2 : Lawful j2
unfolding every start
law2 = lawful 1 3 (2 ∷ 2 ∷ 2 ∷ []) (6 ∷ 5 ∷ 3 ∷ []) j2_rows refl

law3 : Lawful j3
unfolding every start
law3 = lawful 1 4 (3 ∷ 3 ∷ 3 ∷ 3 ∷ []) (14 ∷ 13 ∷ 11 ∷ 7 ∷ []) j3_rows refl

law4 : Lawful j4
unfolding every start
law4 = lawful 1 1 (1 ∷ []) (0 ∷ []) [] refl

law6 : Lawful j6
unfolding every start
law6 = lawful 1 2 (1 ∷ 1 ∷ []) (0 ∷ 0 ∷ []) (padded []) refl

-- what level 2 crosses out of j1
abbrev short_pocket : List (ℕ × ℕ)
short_pocket = (0, 0) ∷ []

-- what levels 1 and 2 cross out of j2
abbrev all_six : List (ℕ × ℕ)
all_six = (0, 0) ∷ (0, 1) ∷ (1, 0) ∷ (1, 1) ∷ (2, 0) ∷ (2, 1) ∷ []

-- what levels 0 and 2 cross out of j1 without option 1 of item 0
abbrev all_by_arcs : List (ℕ × ℕ)
all_by_arcs = (1, 2) ∷ (1, 3) ∷ (2, 2) ∷ (2, 3) ∷ (1, 0) ∷ (1, 1) ∷ (2, 0) ∷ (2, 1) ∷ (0, 0) ∷ []

abbrev all_by_paths : List (ℕ × ℕ)
all_by_paths = (0, 0) ∷ (1, 2) ∷ (1, 3) ∷ (2, 2) ∷ (2, 3) ∷ (1, 0) ∷ (1, 1) ∷ (2, 0) ∷ (2, 1) ∷ []

one_crossed : Leaves j1 [] 2 (λ r v. (r ≡ screened 9 1) × (v.kept ≡ rest j1 [] short_pocket))
unfolding every some count start
one_crossed = keeps MaxRestrictedPath j1 law1 [] short_pocket 2 refl 9 1 tt

-- options a, b, c and d of the four items all stand together
abbrev all_stand : ℕ → ℕ → ℕ → ℕ → Bool
all_stand a b c d =
    j3.together 0 a 1 b && (j3.together 0 a 2 c && (j3.together 0 a 3 d && (j3.together 1 b 2 c && (j3.together 1 b 3 d && j3.together 2 c 3 d))))

-- no choice of the 3 ^ 4 is a layout
no_four : T (every 3 (λ a. every 3 (λ b. every 3 (λ c. every 3 (λ d. not (all_stand a b c d))))))
unfolding every start
no_four = tt

no_layout : (f : ℕ → ℕ) → Layout j3 f → ⊥
no_layout f y =
    let a : f 0 < 3 = y.an_option 0 (lit< tt) in
    let b : f 1 < 3 = y.an_option 1 (lit< tt) in
    let c : f 2 < 3 = y.an_option 2 (lit< tt) in
    let d : f 3 < 3 = y.an_option 3 (lit< tt) in
    let s : (i j : ℕ) → T (ltb i 4) → T (ltb j 4) → T (j3.linked i j) → T (j3.together i (f i) j (f j)) =
    λ i j il jl t. y.together i j (ltb→lt i 4 il) (ltb→lt j 4 jl, t) in
    not_e (all_stand (f 0) (f 1) (f 2) (f 3))
    (every_e 3 (λ z. not (all_stand (f 0) (f 1) (f 2) z))
    (every_e 3 (λ w. every 3 (λ z. not (all_stand (f 0) (f 1) w z)))
    (every_e 3 (λ x. every 3 (λ w. every 3 (λ z. not (all_stand (f 0) x w z))))
    (every_e 3 (λ u. every 3 (λ x. every 3 (λ w. every 3 (λ z. not (all_stand u x w z))))) no_four (f 0) a) (f 1) b) (f 2) c) (f 3) d)
    (and_i _ _ (s 0 1 tt tt tt) (and_i _ _ (s 0 2 tt tt tt) (and_i _ _ (s 0 3 tt tt tt) (and_i _ _ (s 1 2 tt tt tt) (and_i _ _ (s 1 3 tt tt tt) (s 2 3 tt tt tt))))))

far_enough : (b : ℕ) → (j7.together 0 0 1 b ≡ eqb b 1) × (j7.together 0 1 1 b ≡ eqb b 0)
unfolding start
far_enough zero = (refl, refl)
far_enough (suc zero) = (refl, refl)
far_enough (suc (suc b)) =
    let missing : ltb (suc (suc b)) 2 ≡ false = le-ltb (suc (suc b)) 2 (omega arith) in
    (rw (missing, eqb_no (suc (suc b)) 1 (omega arith)) refl, rw (missing, eqb_no (suc (suc b)) 0 (omega arith)) refl)

chosen_done : Accepts j1 (Screen 2 ∷ []) (Choose 0 0)
chosen_done q r v d =
    let h = made_shows j1 (Screen 2 ∷ []) (Choose 0 0) q r v d in
    let ok : strike_due j1 d.session 0 0 ≡ Ok tt = rw (h.0, h.1) refl in
    d.did.0 ∙ ap said ok

pub nine : Nine
unfolding every some count start
nine = record {
  level_2_crosses_out_the_short_pocket = (
    keeps_so_many Arc j1 law1 [] [] 0 refl 10 0 tt,
    keeps_so_many RestrictedPath j1 law1 [] [] 1 refl 10 0 tt,
    λ q r v ad d. let h = one_crossed q r v ad d in (h.0, ap (λ (s : Set). s 0 0) h.1),
  );
  level_1_sees_that_three_do_not_fit_into_two = (
    keeps_so_many Arc j2 law2 [] [] 0 refl 6 0 tt,
    finds_none RestrictedPath j2 law2 [] all_six 1 refl 0 tt,
    finds_none MaxRestrictedPath j2 law2 [] all_six 2 refl 0 tt,
  );
  level_2_does_not_see_that_four_do_not_fit_into_three = (keeps_so_many MaxRestrictedPath j3 law3 [] [] 2 refl 12 0 tt, no_layout);
  the_last_option_struck = finds_none_ever j4 law4 (Strike 0 0 ∷ []) [] 0 tt tt tt;
  restoring_takes_back_the_strike = (
    finds_none Arc j1 law1 (Strike 0 1 ∷ []) all_by_arcs 0 refl 0 tt,
    keeps_so_many Arc j1 law1 (Strike 0 1 ∷ Restore 0 1 ∷ []) [] 0 refl 10 0 tt,
  );
  the_item_with_nothing_left_is_named = finds_none_ever j6 law6 (Strike 1 0 ∷ []) [] 1 tt tt tt;
  only_starts_far_enough_apart_stand_together = far_enough;
  what_is_crossed_out_can_be_chosen = (
    chosen_done,
    finds_none MaxRestrictedPath j1 law1 (Screen 2 ∷ Choose 0 0 ∷ []) all_by_paths 2 refl 0 tt,
  );
  the_hint_names_the_item_to_decide = λ q r v ad d. names j1 v (rest j1 [] short_pocket) 1 (one_crossed q r v ad d).1 tt;
}
