-- What the contents that the check accepts say of counts and links.
use Rattle.std.proofs.Common.{◌≡◌, ℕ, ◌^◌, ◌<◌, Bool, true, false, not, ◌&&◌, ltb, ◌≢◌, List, [], ◌∷◌, get_or, sym, refl, subst, arith}
use Rattle.std.proofs.lemmas.Bool.{and_parts}
use Rattle.std.proofs.lemmas.Bool.Decides.{nat_tests}
use Rattle.bits.specs.Below.{every}
use Rattle.bits.proofs.Belows.{every_at}
use Rattle.meaning.specs.Grid.{links_right, link_right, link_bit, same, contents_right, grid_contents, rows_right}
use Rattle.meaning.specs.Limits.{counts_right}
use Rattle.meaning.specs.declared.parts.GridParts.{GridParts}

same_eq : (x y : Bool) → same x y ≡ true → x ≡ y
same_eq true true e = refl
same_eq true false e = sym e
same_eq false true e = e
same_eq false false e = refl

module _ (p : GridParts) (ok : grid_contents p ≡ true) where
  abbrev n : ℕ
  n = p.items

  abbrev counts : List ℕ
  counts = p.counts.now

  abbrev links : List ℕ
  links = p.links.now

  abbrev rows : List ℕ
  rows = p.rows.now

  pub counts_hold : counts_right n counts ≡ true
  counts_hold = (and_parts (counts_right n counts) (links_right n links && rows_right n counts links rows) ok).0

  links_hold : links_right n links ≡ true
  links_hold = (and_parts (links_right n links) (rows_right n counts links rows) (and_parts (counts_right n counts) (links_right n links && rows_right n counts links rows) ok).1).0

  link_at : (i : ℕ) → i < n → link_right n links i ≡ true
  link_at i h = every_at n (link_right n links) links_hold i h

  pub no_own_link : (i : ℕ) → i < n → link_bit links i i ≡ false
  no_own_link i h = let t = link_at i h in grind (arith, nat_tests)

  pub links_mutual : (i j : ℕ) → i < n → j < n → link_bit links i j ≡ link_bit links j i
  links_mutual i j h k =
      let t = (and_parts (ltb (get_or links i 0) (2 ^ n) && not (link_bit links i i)) (every n (λ j. same (link_bit links i j) (link_bit links j i))) (link_at i h)).1 in
      same_eq (link_bit links i j) (link_bit links j i) (every_at n (λ j. same (link_bit links i j) (link_bit links j i)) t j k)

  pub linked_apart : (i j : ℕ) → i < n → link_bit links i j ≡ true → i ≢ j
  linked_apart i j h t e =
      let s : link_bit links i i ≡ true = subst (λ (k : ℕ). link_bit links i k ≡ true) (sym e) t in
      let f = no_own_link i h in
      grind (arith, nat_tests)

-- the blank book's parts have right contents
pub blank_right : contents_right 1 (1 ∷ []) (0 ∷ []) [] ≡ true
unfolding every
blank_right = refl
