-- Right parts make a lawful grid book, and the blank book's parts mean the blank book.
use Rattle.std.proofs.Common.{◌≡◌, ℕ, zero, suc, ◌<◌, ◌≤◌, true, false, ◌&&◌, ltb, List, get_or, subst, inl, inr, arith}
use Rattle.std.proofs.lemmas.Bool.{cases_lt, cases_order, lt-ltb, le-ltb}
use Rattle.std.proofs.lemmas.Bool.Decides.{nat_tests}
use Rattle.meaning.specs.Blank.{blank}
use Rattle.meaning.specs.Meaning.{Lawful}
use Rattle.meaning.specs.Grid.{grid_contents, grid_meaning, link_bit}
use Rattle.meaning.specs.Limits.{options_in}
use Rattle.meaning.specs.declared.parts.GridParts.{GridParts}
use Rattle.meaning.proofs.GridContents.{counts_hold, no_own_link, links_mutual}
use Rattle.meaning.proofs.Equal.{meaning_equal}
use Rattle.meaning.proofs.OptionCounts.{options_least, options_most, item_there}

module _ (p : GridParts) (few : (1 ≤ p.items) × (p.items ≤ 32)) (ok : grid_contents p ≡ true) where
  abbrev n : ℕ
  n = p.items

  abbrev counts : List ℕ
  counts = p.counts.now

  abbrev links : List ℕ
  links = p.links.now

  self_no : (i : ℕ) → ((ltb i n && ltb i n) && link_bit links i i) ≡ false
  self_no i =
      elim (cases_lt i n) [
        | inl more ↦ let t = no_own_link p ok i more in grind (arith, nat_tests)
        | inr less ↦ let t = le-ltb i n less in grind (arith, nat_tests)
      ]

  link_both : (i j : ℕ) → ((ltb i n && ltb j n) && link_bit links i j) ≡ ((ltb j n && ltb i n) && link_bit links j i)
  link_both i j =
      elim (cases_lt i n) [
        | inl more ↦ elim (cases_lt j n) [
          | inl more' ↦ let t = links_mutual p ok i j more more' in grind (arith, nat_tests)
          | inr less' ↦ let t = le-ltb j n less' in grind (arith, nat_tests)
        ]
        | inr less ↦ let t = le-ltb i n less in grind (arith, nat_tests)
      ]

  -- an answer about existing options is the same read the other way
  together_both : (i a j b : ℕ) → (grid_meaning p).together i a j b ≡ (grid_meaning p).together j b i a
  together_both i a j b =
      elim (cases_lt a (options_in n counts i)) [
        | inl x ↦ elim (cases_lt b (options_in n counts j)) [
          | inl y ↦
              let t = links_mutual p ok i j (item_there n counts i a x) (item_there n counts j b y) in
              elim (cases_order i j) [
                | inl same' ↦ let s : link_bit links i j ≡ false = subst (λ (k : ℕ). link_bit links i k ≡ false) same' (no_own_link p ok i (item_there n counts i a x)) in grind (arith, nat_tests)
                | inr other ↦ elim other [ inl up ↦ grind (arith, nat_tests) | inr down ↦ grind (arith, nat_tests) ]
              ]
          | inr y ↦ let t = le-ltb b (options_in n counts j) y in grind (arith, nat_tests)
        ]
        | inr x ↦ let t = le-ltb a (options_in n counts i) x in grind (arith, nat_tests)
      ]

  together_free : (i a j b : ℕ) → (grid_meaning p).linked i j ≡ false → a < options_in n counts i → b < options_in n counts j → (grid_meaning p).together i a j b ≡ true
  together_free i a j b t x y =
      let k = lt-ltb i n (item_there n counts i a x) in
      let l = lt-ltb j n (item_there n counts j b y) in
      let u = lt-ltb a (options_in n counts i) x in
      let v = lt-ltb b (options_in n counts j) y in
      grind (arith, nat_tests)

  pub grid_lawful : Lawful (grid_meaning p)
  grid_lawful = record {
    items_least = few.0;
    items_most = few.1;
    options_least = options_least n counts (counts_hold p ok);
    options_most = options_most n counts (counts_hold p ok);
    options_missing = λ i k. let t = le-ltb i n k in grind (arith, nat_tests);
    linked_missing = λ i j k. let t = le-ltb i n k in grind (arith, nat_tests);
    linked_self = self_no;
    linked_mutual = link_both;
    together_missing = λ i a j b k. grind (arith, nat_tests);
    together_mutual = together_both;
    together_unlinked = together_free;
  }

module _ (p : GridParts) (e : p.edition ≡ 0) (one : p.items ≡ 1) (count : get_or p.counts.now 0 0 ≡ 1) (free : link_bit p.links.now 0 0 ≡ false) where
  blank_options : (i : ℕ) → (grid_meaning p).options i ≡ blank.options i
  blank_options zero = rw one count
  blank_options (suc i) = grind (arith, nat_tests)

  no_link : (i j : ℕ) → i < 1 → j < 1 → link_bit p.links.now i j ≡ false
  no_link zero zero h k = free
  no_link zero (suc j) h k = absurd (omega arith)
  no_link (suc i) j h k = absurd (omega arith)

  blank_linked : (i j : ℕ) → (grid_meaning p).linked i j ≡ false
  blank_linked i j = let t = no_link i j in grind (arith, nat_tests)

  blank_together : (i a j b : ℕ) → (grid_meaning p).together i a j b ≡ blank.together i a j b
  blank_together i a j b =
      let t = no_link i j in
      let x = blank_options i in
      let y = blank_options j in
      grind (arith, nat_tests)

  pub blank_grid : grid_meaning p ≡ blank
  blank_grid = meaning_equal (grid_meaning p) blank e one blank_options blank_linked blank_together
