use Rattle.std.proofs.Common.{◌≡◌, ℕ, ◌-◌, ◌*◌, ◌<◌, ◌≤◌, Bool, ◌&&◌, T, List, get_or, sym, ap, ◌∙◌, subst, arith}
use lib.Bits.{bit_and}
use Rattle.bits.specs.Below.{one_if}
use Rattle.bits.specs.Bits.{bit}
use Rattle.bits.proofs.Tests.{of_true, of_false}
use Rattle.bits.proofs.Words.{bit_of_and}
use Rattle.meaning.specs.Meaning.{Meaning, Lawful}
use Rattle.levels.specs.Sets.{words}
use Rattle.levels.specs.Counted.{place, byte}
use Rattle.propagation.specs.Supports.{Supports}
use Rattle.propagation.proofs.Bytes.{all_yes, all_no, all_not_yet}
use Rattle.propagation.proofs.Rows.{support_back, and_swap}
use Rattle.propagation.proofs.screening.Screening.lower_linked.Goals as goal
use Rattle.propagation.proofs.screening.Screening.lower_linked.Goals.{then-linked, else-linked}

-- the word that is lowered by has the kept options of i that stand with b of j
lowered_word : (m : Meaning) → Lawful m → (rows ws : List ℕ) (i j b a : ℕ) → Supports m rows → i < m.items → T (m.linked i j) → j < m.items → b < 32
    → bit (bit_and (get_or rows (place j b i) 0) (get_or ws i 0)) a ≡ (words ws i a && m.together i a j b)
lowered_word m law rows ws i j b a sup il l jl bl =
    let n = law.items_most in
    bit_of_and (get_or rows (place j b i) 0) (get_or ws i 0) a
    ∙ (ap (λ (z : Bool). z && words ws i a) (support_back m law (1024 * m.items) rows i a j b sup il bl (jl, l) (omega arith)) ∙ and_swap (m.together i a j b) (words ws i a))

pub loop-i-preserved : goal.loop-i-preserved
loop-i-preserved g c =
    let m = g.B.RuleBook.meaning c.args.self.now.book.now in
    let law = g.B.RuleBook.lawful c.args.self.now.book.now in
    let i : ℕ = c.loop-i.i in
    let j : ℕ = c.args.j in
    let b : ℕ = c.args.b in
    let f : ℕ → ℕ → Bool = λ x a. words c.args.kept.now x a && m.together x a j b in
    let il : i < m.items = omega (arith, c.items-i-end.ensures, c.loop-i-test.true) in
    elim c.if-linked.branch [
      | then-linked w ↦
          (let l : T (m.linked i j) = of_true (sym c.linked.ensures ∙ w.if-linked.true) in
          all_yes m c.args.counts.now c.loop-i.counts j f i c.loop-i.invariant c.if-linked.counts l
          (λ a al.
          ap (λ (x : List ℕ). byte x i a j) w.counts-is ∙ (w.lower.ensures.mine a al
          ∙ ap (λ (z : Bool). byte c.loop-i.counts i a j - one_if z) (lowered_word m law c.args.self.now.rows.now c.args.kept.now i j b a c.args.self.now.known il l c.requires.there.0 c.requires.there.1)))
          (λ k h. ap (λ (x : List ℕ). get_or x k 0) w.counts-is ∙ w.lower.ensures.others k h))
      | else-linked w ↦ all_no m c.args.counts.now c.loop-i.counts j f i c.loop-i.invariant c.if-linked.counts (of_false (sym c.linked.ensures ∙ w.if-linked.false)) w.counts-is
    ]

pub lower-requires-clause-one : goal.lower-requires-clause-one
lower-requires-clause-one g c =
    let m = g.B.RuleBook.meaning c.args.self.now.book.now in
    let law = g.B.RuleBook.lawful c.args.self.now.book.now in
    let i : ℕ = c.loop-i.i in
    let j : ℕ = c.args.j in
    let b : ℕ = c.args.b in
    let f : ℕ → ℕ → Bool = λ x a. words c.args.kept.now x a && m.together x a j b in
    let il : i < m.items = omega (arith, c.items-i-end.ensures, c.loop-i-test.true) in
    let l : T (m.linked i j) = of_true (sym c.linked.ensures ∙ c.if-linked.true) in
    λ a al t.
    subst (λ (z : ℕ). 1 ≤ z) (sym (all_not_yet m c.args.counts.now c.loop-i.counts j f i c.loop-i.invariant a al))
    (c.requires.one i a il al l (subst T (lowered_word m law c.args.self.now.rows.now c.args.kept.now i j b a c.args.self.now.known il l c.requires.there.0 c.requires.there.1) t))

pub returns-clause-others : goal.returns-clause-others
returns-clause-others g c =
    λ k h. c.loop-i.invariant.1 k (λ x a xl al. h x a (omega (arith, c.items-i-end.ensures, c.loop-i.auto.i-end, xl)) al)
