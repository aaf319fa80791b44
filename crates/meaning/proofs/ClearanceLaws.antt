-- Right parts make a lawful clearance book, and the blank book's parts mean the blank book.
use Rattle.std.proofs.Common.{◌≡◌, ℕ, zero, suc, ◌<◌, ◌≤◌, true, false, ◌&&◌, List, [], ◌∷◌, get_or, replicate, refl, arith}
use Rattle.std.proofs.lemmas.Bool.{and_parts, lt-ltb, le-ltb}
use Rattle.std.proofs.lemmas.Bool.Decides.{nat_tests}
use Rattle.bits.specs.Below.{every}
use Rattle.meaning.specs.Clearance.{apart, clearance_contents, clearance_meaning, contents_right, gap_of, gaps_right, green, greens_right}
use Rattle.meaning.specs.Limits.{counts_right, options_in}
use Rattle.meaning.specs.Blank.{blank}
use Rattle.meaning.specs.Meaning.{Lawful}
use Rattle.meaning.specs.declared.parts.ClearanceParts.{ClearanceParts}
use Rattle.meaning.proofs.Equal.{meaning_equal}
use Rattle.meaning.proofs.OptionCounts.{item_there, options_least, options_most}

-- no gap between an item and itself, and one gap for both ways
no_own_gap : (gaps : List ℕ) (i : ℕ) → gap_of gaps i i ≡ 0
no_own_gap gaps i = grind (arith, nat_tests)

gap_mutual : (gaps : List ℕ) (i j : ℕ) → gap_of gaps i j ≡ gap_of gaps j i
gap_mutual gaps i j = grind (arith, nat_tests)

apart_mutual : (x y : ℕ) → apart x y ≡ apart y x
apart_mutual x y = omega arith

pub counts_hold : (p : ClearanceParts) → clearance_contents p ≡ true → counts_right p.items p.counts.now ≡ true
counts_hold p ok = (and_parts (counts_right p.items p.counts.now) (greens_right p.items p.counts.now p.starts.now && gaps_right p.items p.gaps.now) ok).0

module _ (p : ClearanceParts) (few : (1 ≤ p.items) × (p.items ≤ 32)) (ok : clearance_contents p ≡ true) where
  abbrev n : ℕ
  n = p.items

  abbrev counts : List ℕ
  counts = p.counts.now

  together_free : (i a j b : ℕ) → (clearance_meaning p).linked i j ≡ false → a < options_in n counts i → b < options_in n counts j → (clearance_meaning p).together i a j b ≡ true
  together_free i a j b t x y =
      let k = lt-ltb i n (item_there n counts i a x) in
      let l = lt-ltb j n (item_there n counts j b y) in
      grind (arith, nat_tests)

  pub clearance_lawful : Lawful (clearance_meaning p)
  clearance_lawful = record {
    items_least = few.0;
    items_most = few.1;
    options_least = options_least n counts (counts_hold p ok);
    options_most = options_most n counts (counts_hold p ok);
    options_missing = λ i k. let t = le-ltb i n k in grind (arith, nat_tests);
    linked_missing = λ i j k. let t = le-ltb i n k in grind (arith, nat_tests);
    linked_self = λ i. let t = no_own_gap p.gaps.now i in grind (arith, nat_tests);
    linked_mutual = λ i j. let t = gap_mutual p.gaps.now i j in grind (arith, nat_tests);
    together_missing = λ i a j b k. grind (arith, nat_tests);
    together_mutual = λ i a j b. let t = gap_mutual p.gaps.now i j in let s = apart_mutual (green p.starts.now i a) (green p.starts.now j b) in grind (arith, nat_tests);
    together_unlinked = together_free;
  }

-- the blank book's parts have right contents
pub blank_right : contents_right 1 (1 ∷ []) (replicate 32 0) [] ≡ true
unfolding every
blank_right = refl

module _ (p : ClearanceParts) (e : p.edition ≡ 0) (one : p.items ≡ 1) (count : get_or p.counts.now 0 0 ≡ 1) where
  blank_options : (i : ℕ) → (clearance_meaning p).options i ≡ blank.options i
  blank_options zero = rw one count
  blank_options (suc i) = grind (arith, nat_tests)

  no_gap : (i j : ℕ) → i < 1 → j < 1 → gap_of p.gaps.now i j ≡ 0
  no_gap i j h k = grind (arith, nat_tests)

  blank_linked : (i j : ℕ) → (clearance_meaning p).linked i j ≡ false
  blank_linked i j = let t = no_gap i j in grind (arith, nat_tests)

  blank_together : (i a j b : ℕ) → (clearance_meaning p).together i a j b ≡ blank.together i a j b
  blank_together i a j b =
      let t = no_gap i j in
      let x = blank_options i in
      let y = blank_options j in
      grind (arith, nat_tests)

  pub blank_clearance : clearance_meaning p ≡ blank
  blank_clearance = meaning_equal (clearance_meaning p) blank e one blank_options blank_linked blank_together
