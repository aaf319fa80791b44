-- The joint book of any two lawful books is lawful, and means what its two books say together.
use Rattle.std.proofs.Common.{◌≡◌, ℕ, ◌<◌, Bool, true, false, eqb, sym, refl, ◌∙◌, subst, inl, inr, arith}
use Rattle.std.proofs.lemmas.Bool.{and_parts, cases_lt, cond_both, cond-false, cond-true, eqb-true}
use Rattle.std.proofs.lemmas.Bool.Decides.{nat_tests}
use Rattle.bits.specs.Below.{every}
use Rattle.bits.proofs.Belows.{every_at}
use Rattle.meaning.specs.Blank.{blank}
use Rattle.meaning.specs.Joint.{agree, both, cut, joined, joint}
use Rattle.meaning.specs.Meaning.{Meaning, Lawful}
use Rattle.meaning.proofs.BlankLaws.{blank_lawful}
use Rattle.meaning.proofs.Equal.{meaning_equal}

module _ (m k : Meaning) (p : Lawful m) (q : Lawful k) where
  item_there : (i a : ℕ) → a < m.options i → i < m.items
  item_there i a h =
      elim (cases_lt i m.items) [
        | inl more ↦ more
        | inr less ↦ absurd (omega (arith, p.options_missing i less))
      ]

  cut_free : (i a j b : ℕ) → (cut m k).linked i j ≡ false → a < m.options i → b < m.options j → (cut m k).together i a j b ≡ true
  cut_free i a j b e x y =
      let s = item_there i a x in
      let t = item_there j b y in
      let u = p.together_unlinked i a j b in
      grind (arith, nat_tests)

  cut_lawful : Lawful (cut m k)
  cut_lawful = record {
    items_least = p.items_least;
    items_most = p.items_most;
    options_least = p.options_least;
    options_most = p.options_most;
    options_missing = p.options_missing;
    linked_missing = λ i j h. let e = p.linked_missing i j h in grind (arith, nat_tests);
    linked_self = λ i. let e = p.linked_self i in let f = q.linked_self i in grind (arith, nat_tests);
    linked_mutual = λ i j. let e = p.linked_mutual i j in let f = q.linked_mutual i j in grind (arith, nat_tests);
    together_missing = λ i a j b h. let e = p.together_missing i a j b h in grind (arith, nat_tests);
    together_mutual = λ i a j b. let e = p.together_mutual i a j b in let f = q.linked_mutual i j in let g = q.together_mutual i a j b in grind (arith, nat_tests);
    together_unlinked = cut_free;
  }

  pub joined_lawful : (fits : Bool) → Lawful (joined fits m k)
  joined_lawful true = cut_lawful
  joined_lawful false = blank_lawful

  module _ (yes' : agree m k ≡ true) where
    items_same : m.items ≡ k.items
    items_same = eqb-true m.items k.items (and_parts (eqb m.items k.items) _ (and_parts (eqb m.edition k.edition) _ yes').1).0

    counts_same : every m.items (λ i. eqb (m.options i) (k.options i)) ≡ true
    counts_same = (and_parts (eqb m.items k.items) _ (and_parts (eqb m.edition k.edition) _ yes').1).1

    options_same : (i : ℕ) → m.options i ≡ k.options i
    options_same i =
        elim (cases_lt i m.items) [
          | inl more ↦ eqb-true (m.options i) (k.options i) (every_at m.items (λ i. eqb (m.options i) (k.options i)) counts_same i more)
          | inr less ↦ p.options_missing i less ∙ sym (q.options_missing i (omega (arith, items_same)))
        ]

    -- the second book links only items of the first
    links_same : (i j : ℕ) → (cut m k).linked i j ≡ (both m k).linked i j
    links_same i j =
        let e = items_same in
        let u = q.linked_missing i j in
        let v = q.linked_missing j i in
        let w = q.linked_mutual i j in
        grind (arith, nat_tests)

    -- and lets all options stand together that it does not link
    together_same : (i a j b : ℕ) → (cut m k).together i a j b ≡ (both m k).together i a j b
    together_same i a j b =
        let x = options_same i in
        let y = options_same j in
        let u = p.together_missing i a j b in
        let v = p.together_missing j b i a in
        let w = p.together_mutual i a j b in
        let z = q.together_unlinked i a j b in
        grind (arith, nat_tests)

    cut_both : cut m k ≡ both m k
    cut_both = meaning_equal (cut m k) (both m k) refl refl (λ i. refl) links_same together_same

  pub joined_joint : joined (agree m k) m k ≡ joint m k
  joined_joint =
      cond_both (agree m k) (cut m k) blank (λ (x : Meaning). x ≡ joint m k)
      (λ e. cut_both e ∙ sym (cond-true (agree m k) (both m k) blank e))
      (λ e. sym (cond-false (agree m k) (both m k) blank e))

pub joint_lawful : {m k : Meaning} → Lawful m → Lawful k → Lawful (joint m k)
joint_lawful {m} {k} p q = subst Lawful (joined_joint m k p q) (joined_lawful m k p q (agree m k))
