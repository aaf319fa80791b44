-- What holds of a draft once its items are read.
-- Done e q: the lines of the pair q were given, or some of them, where e is due
-- up_to s e: the pair lines before e
use Rattle.std.proofs.Common.{◌≡◌, ℕ, ◌+◌, ◌*◌, ◌^◌, ◌<◌, ◌≤◌, true, false, ◌⊎◌, List, [], ◌++◌, map, length, get_or, inl, inr, ⊎_elim, arith}
use Rattle.std.specs.List.{range_with_len, flat_map}
use Rattle.std.proofs.lemmas.Bool.{cases_lt, cases_Bool, cond-false}
use Rattle.std.proofs.lemmas.Bool.Decides.{nat_tests}
use Rattle.meaning.specs.Grid.{link_bit, place, rows_for}
use Rattle.sheets.specs.declared.draft.Draft.{Draft}
use Rattle.sheets.specs.declared.draft.Due.{Due}
use Rattle.sheets.specs.Texts.{opening_right, Sheet, sheet_of, first, second, is_given, pair_line, pair_lines}
use Rattle.sheets.proofs.Places.{whole_pair}

abbrev pub Done : Due → ℕ → Type 0
Done e q = (q < e.pair) ⊎ ((q ≡ e.pair) × (0 < e.option))

-- the pair whose lines are not all given yet
pub record Begun (d : Draft) : Type 0 where
  pub i : ℕ
  pub j : ℕ
  pub low : i < j
  pub there : j < d.opening.items
  pub is : d.due.pair ≡ 32 * i + j
  pub more : d.due.option < get_or d.counts i 0

pub record Drafted (d : Draft) : Type 0 where
  pub opening_in : opening_right d.opening ≡ true
  pub items_most : d.opening.items ≤ 32
  pub counts_long : length d.counts ≡ 32
  pub links_long : length d.links ≡ 32
  pub rows_long : length d.rows ≡ 15872
  pub counts_in : (i : ℕ) → i < d.opening.items → (1 ≤ get_or d.counts i 0) × (get_or d.counts i 0 ≤ 32)
  pub counts_past : (i : ℕ) → d.opening.items ≤ i → get_or d.counts i 0 ≡ 0
  pub own : (i : ℕ) → link_bit d.links i i ≡ false
  pub mutual_links : (i j : ℕ) → link_bit d.links i j ≡ link_bit d.links j i
  pub linked_in : (i j : ℕ) → i < j → link_bit d.links i j ≡ true → j < d.opening.items
  pub linked_done : (i j : ℕ) → i < j → link_bit d.links i j ≡ true → Done d.due (32 * i + j)
  pub pair_most : d.due.pair ≤ 1024
  pub begun : 0 < d.due.option → Begun d
  pub rows_past : (k : ℕ) → rows_for d.opening.items ≤ k → get_or d.rows k 0 ≡ 0
  pub rows_small : (i a j : ℕ) → i < j → j < d.opening.items → a < 32 → get_or d.rows (place i a j) 0 < 2 ^ get_or d.counts j 0
  pub rows_free : (i a j : ℕ) → i < j → j < d.opening.items → a < 32 → (link_bit d.links i j ≡ false) ⊎ (get_or d.counts i 0 ≤ a) → get_or d.rows (place i a j) 0 ≡ 0

abbrev pub up_to : Sheet → Due → List (List ℕ)
up_to s e = flat_map (pair_lines s) (range_with_len 0 e.pair) ++ map (pair_line s e.pair) (range_with_len 0 e.option)

pub count_most : (d : Draft) → Drafted d → (i : ℕ) → get_or d.counts i 0 ≤ 32
count_most d h i =
    elim (cases_lt i d.opening.items) [
      | inl less ↦ (h.counts_in i less).1
      | inr past ↦ omega (arith, h.counts_past i past)
    ]

pub linked_no : (d : Draft) → Drafted d → (i j : ℕ) → i < j → (Done d.due (32 * i + j) → ⊥) → link_bit d.links i j ≡ false
linked_no d h i j l undone = elim (cases_Bool (link_bit d.links i j)) [ inl t ↦ absurd (undone (h.linked_done i j l t)) | inr f ↦ f ]

-- what lies between the pair that may begin and the one that does is not linked
pub skipped : (d : Draft) → Drafted d → d.due.option ≡ 0 → (r : ℕ) → d.due.pair ≤ r → pair_lines (sheet_of d) r ≡ []
skipped d h o r l =
    let e = whole_pair r in
    cond-false (is_given (sheet_of d) r) (map (pair_line (sheet_of d) r) (range_with_len 0 (get_or d.counts (first r) 0))) []
    (elim (cases_lt (first r) (second r)) [
      | inl less ↦ let f = linked_no d h (first r) (second r) less (⊎_elim (λ z. omega arith) (λ z. omega (arith, z.0, z.1))) in grind (arith, nat_tests)
      | inr more ↦ grind (arith, nat_tests)
    ])
