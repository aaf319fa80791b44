use Rattle.std.proofs.Common.{◌≡◌, ℕ, ◌+◌, T, List, sym, refl, ◌∙◌, subst₂, arith}
use Rattle.bags.specs.Bags.{Bag, add}
use Rattle.bits.proofs.Tests.{of_true, of_false}
use Rattle.levels.specs.Sets.{words}
use Rattle.levels.specs.Levels.{Meets}
use Rattle.levels.specs.Counts.{count_on}
use Rattle.levels.proofs.Decide.{meets_dec}
use Rattle.lists.specs.declared.choice.Choice.{Choice}
use Rattle.propagation.specs.declared.domains.Domains.{Domains}
use Rattle.propagation.proofs.Revising.{Revising, revising_out, revising_stay, sound_unmark}
use Rattle.propagation.proofs.Waiting.{pending_waits}
use Rattle.propagation.proofs.screening.Screening.revise.Goals as goal
use Rattle.propagation.proofs.screening.Screening.revise.Goals.{then-contains+then-not-meets, else-contains, else-contains-via-then-contains+else-not-meets, else-contains-via-else-contains}

pub loop-a-preserved : goal.loop-a-preserved
loop-a-preserved g c =
    let m = g.B.RuleBook.meaning c.args.self.now.book.now in
    let waits = g.O.WaitingList.waits in
    let room = g.O.WaitingList.room in
    let n : ℕ = c.args.self.now.c in
    let i : ℕ = c.args.i in
    let a : ℕ = c.loop-a.a in
    let bytes : List ℕ = c.args.counts.now in
    let d₀ : Domains = c.args.domains.now in
    let d : Domains = c.loop-a.domains in
    let w₀ : Bag Choice = waits c.loop-a.options in
    let r₀ : ℕ = room c.loop-a.options in
    let inv : Revising n m d₀ d bytes w₀ r₀ i a = c.loop-a.invariant.0 in
    let P : Domains → g.row.O.Denot → Type 0 = λ e o. Revising n m d₀ e bytes (waits o) (room o) i (a + 1) × (e.seen ≡ d₀.seen) × (e.marked ≡ d₀.marked) × (room o ≡ room c.args.options.now) in
    elim c.if-contains.branch [
      | then-contains+then-not-meets w ↦
          (let d₁ : Domains = record { kept = w.take_out.new.set; seen = d.seen; marked = d.marked } in
          let x : Choice = record { item = i; option = a } in
          let t : T (words d.kept i a) = of_true (sym c.contains.ensures ∙ w.if-contains.true) in
          let fails : Meets (count_on n) m (words d.seen) i a → ⊥ = λ h. of_false (sym w.meets.ensures ∙ w.if-not-meets.true) ((meets_dec n m (words d.seen) i a).1 h) in
          let e : waits w.put.new.self ≡ add x w₀ = pending_waits m (words d.kept) (words d.seen) r₀ w₀ (waits w.put.new.self) i a inv.0.inside inv.0.there inv.1 t w.put.ensures.waiting in
          let r : Revising n m d₀ d₁ bytes (add x w₀) r₀ i (a + 1) = revising_out n m d₀ d bytes w₀ r₀ i a inv d₁ t fails w.take_out.ensures refl refl in
          let done : P d₁ w.put.new.self = (
            subst₂ (λ (b : Bag Choice) (k : ℕ). Revising n m d₀ d₁ bytes b k i (a + 1)) (sym e) (sym w.put.ensures.capacity) r,
            c.loop-a.invariant.1,
            c.loop-a.invariant.2,
            w.put.ensures.capacity ∙ c.loop-a.invariant.3,
          ) in
          subst₂ P (sym w.domains-is) (sym w.options-is) done)
      | else-contains w ↦
          (let h : T (words d.kept i a) → Meets (count_on n) m (words d.seen) i a =
          λ t. elim w.else-contains.branch [
            | else-contains-via-then-contains+else-not-meets w' ↦ (meets_dec n m (words d.seen) i a).0 (of_true (sym w'.meets.ensures ∙ w'.if-not-meets.false))
            | else-contains-via-else-contains w' ↦ absurd (of_false (sym c.contains.ensures ∙ w'.if-contains.false) t)
          ] in
          let done : P d c.loop-a.options = (revising_stay n m d₀ d bytes w₀ r₀ i a inv h, c.loop-a.invariant.1, c.loop-a.invariant.2, c.loop-a.invariant.3) in
          subst₂ P (sym w.domains-is) (sym w.options-is) done)
    ]

pub returns-clause-sound : goal.returns-clause-sound
returns-clause-sound g c =
    let m = g.B.RuleBook.meaning c.args.self.now.book.now in
    let n : ℕ = c.args.self.now.c in
    let i : ℕ = c.args.i in
    let d : Domains = c.loop-a.domains in
    let d₁ : Domains = record { kept = d.kept; seen = d.seen; marked = c.without_bit-domains.result } in
    let inv = c.loop-a.invariant.0 in
    sound_unmark n m d d₁ c.args.counts.now i inv.0 refl refl c.without_bit-domains.ensures (λ a al. inv.3 a (omega (arith, c.options-a-end.ensures, c.loop-a-test.false, al)))
