use Rattle.std.proofs.Common.{◌≡◌, ℕ, ◌*◌, ◌/◌, ◌%◌, ◌<◌, Bool, true, cond, ◌&&◌, T, List, get_or, sym, ap, ◌∙◌, arith}
use Rattle.bits.specs.Below.{count}
use Rattle.bits.specs.Bits.{bit}
use Rattle.bits.proofs.Tests.{and_r, of_true}
use Rattle.levels.specs.Sets.{words}
use Rattle.levels.specs.Counts.{partners}
use Rattle.levels.specs.Counted.{place}
use Rattle.propagation.proofs.Rows.{support_count, linked_there}
use Rattle.propagation.proofs.screening.Screening.count_of.Goals as goal

pub returns-then-is_used : goal.returns-then-is_used
returns-then-is_used g c =
    let m = g.B.RuleBook.meaning c.args.self.now.book.now in
    let law = g.B.RuleBook.lawful c.args.self.now.book.now in
    let n : ℕ = c.args.n in
    let i : ℕ = n / 1024 in
    let a : ℕ = n / 32 % 32 in
    let j : ℕ = n % 32 in
    let rows : List ℕ = c.args.self.now.rows.now in
    let ws : List ℕ = c.args.set.now in
    let used : (words ws i a && m.linked i j) ≡ true = sym c.is_used.ensures ∙ c.if-is_used.true in
    let l : T (m.linked i j) = and_r (words ws i a) (m.linked i j) (of_true used) in
    let back : n ≡ place i a j = omega arith in
    let low : place i a j < 1024 * m.items = omega (arith, c.requires) in
    let e : c.shared.result ≡ partners m (words ws) i a j =
    c.shared.ensures
    ∙ (ap (λ (z : ℕ). count 32 (λ b. words ws j b && bit (get_or rows z 0) b)) back
    ∙ support_count m law (1024 * m.items) rows ws i a j c.args.self.now.known (omega (arith, c.requires)) (omega arith) (linked_there m law i j l) low) in
    e ∙ ap (λ (b : Bool). cond {A = ℕ} b (partners m (words ws) i a j) 0) (sym used)
