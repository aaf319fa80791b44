-- The option list: an option is crossed out and waits, it is spread and waits no more, and where none waits all that is seen is kept.
use Rattle.std.proofs.Common.{◌≡◌, ℕ, ◌+◌, ◌<◌, ◌≤◌, Bool, true, false, cond, not, ◌&&◌, T, ltb, sym, refl, ap, ◌∙◌, subst, subst₂, inl, inr, arith, lt-ltb}
use mathlib.Core.Path.{fun_ext}
use Rattle.bags.specs.Bags.{Bag, none, add, many, size as number}
use Rattle.bags.proofs.BagLaws.{many_add, size_add, put_one}
use Rattle.lists.specs.Calls.{put_waits}
use Rattle.bits.specs.Below.{one_if}
use Rattle.bits.proofs.Counts.{one_if_back, one_if_none}
use Rattle.bits.proofs.Tests.{and_l, and_i, not_i, T_or_not, same_T}
use Rattle.meaning.specs.Meaning.{Meaning}
use Rattle.levels.specs.Sets.{Set}
use Rattle.levels.specs.Size.{size}
use Rattle.levels.proofs.Crossing.{is_same, without, same_e, same_self}
use Rattle.levels.proofs.Sizes.{size_drop}
use Rattle.lists.specs.declared.choice.Choice.{Choice}
use Rattle.propagation.specs.Lists.{is, Pending}
use Rattle.propagation.specs.State.{There, Sub}

none_out : (s : Bool) → 0 ≡ one_if (s && not s)
none_out true = refl
none_out false = refl

pub pending_start : (m : Meaning) (s : Set) (room : ℕ) → size m s ≤ room → Pending m s s none room
pending_start m s room le = record { once = λ i a. none_out (s i a); total = omega arith; fits = le }

out_once : (p k s : Bool) → (T p → T k) → (T k → T s) → cond p 1 0 + one_if (s && not k) ≡ one_if (s && not (k && not p))
out_once true true true f h = refl
out_once true true false f h = absurd (h tt)
out_once true false s f h = absurd (f tt)
out_once false true true f h = refl
out_once false true false f h = refl
out_once false false true f h = refl
out_once false false false f h = refl

spread_once : (p k s : Bool) (z : ℕ) → (T p → T (s && not k)) → cond p 1 0 + z ≡ one_if (s && not k) → z ≡ one_if ((s && not p) && not k)
spread_once true true true z f e = absurd (f tt)
spread_once true false true z f e = omega arith
spread_once true k false z f e = absurd (f tt)
spread_once false k true z f e = omega arith
spread_once false k false z f e = omega arith

one_more : (p : Bool) (z : ℕ) → T p → 1 ≤ cond p 1 0 + z
one_more true z t = omega arith
one_more false z t = absurd t

module _ (m : Meaning) (kept seen : Set) (room : ℕ) (w : Bag Choice) where
  pub pending_out : Sub kept seen → There m seen → (i a : ℕ) → Pending m kept seen w room → T (kept i a)
      → Pending m (without kept i a) seen (add (record { item = i; option = a }) w) room
  pending_out sub there i a p t =
      let x : Choice = record { item = i; option = a } in
      let th = there i a (sub i a t) in
      record {
        once = λ j b.
            many_add (is j b) x w
            ∙ (ap (λ (n : ℕ). cond (is_same i a j b) 1 0 + n) (p.once j b)
            ∙ out_once (is_same i a j b) (kept j b) (seen j b)
            (λ e. let q = same_e i a j b e in subst₂ (λ (y z : ℕ). T (kept y z)) q.0 q.1 t) (sub j b));
        total =
            (let e = size_drop m kept i a (th.0, th.1, t) in
            let f = size_add x w in
            omega (arith, e, f, p.total));
        fits = p.fits;
      }

  pub pending_free : Sub kept seen → There m seen → (i a : ℕ) → Pending m kept seen w room → T (kept i a) → number w < room
  pending_free sub there i a p t =
      let th = there i a (sub i a t) in
      let e = size_drop m kept i a (th.0, th.1, t) in
      omega (arith, e, p.total, p.fits)

  -- the list takes an option that is crossed out
  pub pending_waits : (new : Bag Choice) (i a : ℕ) → Sub kept seen → There m seen → Pending m kept seen w room → T (kept i a)
      → new ≡ put_waits (record { item = i; option = a }) w room → new ≡ add (record { item = i; option = a }) w
  pending_waits new i a sub there p t is =
      put_one new w (record { item = i; option = a }) (ltb (number w) room) is (lt-ltb (number w) room (pending_free sub there i a p t))

  module _ (x : Choice) (before : Bag Choice) (taken : before ≡ add x w) (waiting : Pending m kept seen before room) where
    p : Pending m kept seen (add x w) room
    p = subst (λ (b : Bag Choice). Pending m kept seen b room) taken waiting

    pub pending_in : T (seen x.item x.option && not (kept x.item x.option))
    pending_in =
        let i : ℕ = x.item in
        let a : ℕ = x.option in
        let e = sym (many_add (is i a) x w) ∙ p.once i a in
        one_if_back (seen i a && not (kept i a)) (subst (λ (n : ℕ). 1 ≤ n) e (one_more (is_same i a i a) (many (is i a) w) (same_self i a)))

    pub pending_drop : There m seen → Pending m kept (without seen x.item x.option) w room
    pending_drop there =
        let i : ℕ = x.item in
        let a : ℕ = x.option in
        let t = pending_in in
        let e = size_drop m seen i a (there i a (and_l (seen i a) (not (kept i a)) t)) in
        let f = size_add x w in
        record {
          once = λ j b.
              spread_once (is_same i a j b) (kept j b) (seen j b) (many (is j b) w)
              (λ s. let q = same_e i a j b s in subst₂ (λ (y z : ℕ). T (seen y z && not (kept y z))) q.0 q.1 t)
              (sym (many_add (is j b) x w) ∙ p.once j b);
          total = omega (arith, e, f, p.total);
          fits = omega (arith, e, p.fits);
        }

pub pending_end : (m : Meaning) (kept seen : Set) (room : ℕ) → Sub kept seen → Pending m kept seen none room → seen ≡ kept
pending_end m kept seen room sub p =
    fun_ext (λ i. fun_ext (λ a.
    same_T (seen i a) (kept i a)
    (λ s. elim (T_or_not (kept i a)) [
      | inl k ↦ k
      | inr n ↦ absurd (one_if_none (seen i a && not (kept i a)) (sym (p.once i a)) (and_i (seen i a) (not (kept i a)) s (not_i (kept i a) n)))
    ])
    (sub i a)))
