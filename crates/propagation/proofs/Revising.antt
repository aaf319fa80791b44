-- Revising one item: what is crossed out fails, so no closed set is lost, and what is left of the item meets the count.
-- Revising: the first n options of item i have been looked at, since the domains were d₀
use Rattle.std.proofs.Common.{◌≡◌, ℕ, ◌+◌, ◌<◌, not, ◌&&◌, T, eqb, List, sym, ap, subst, subst₂, arith, eqb→eq}
use mathlib.Core.Path.{fun_ext}
use native.Mathlib.Decide.{ℕ_discrete}
use Rattle.bags.specs.Bags.{Bag, add}
use Rattle.bits.specs.Bits.{bit}
use Rattle.bits.proofs.Tests.{and_l, and_r, and_i, not_e, not_i}
use Rattle.meaning.specs.Meaning.{Meaning}
use Rattle.levels.specs.Sets.{Set, Has, Inside, words}
use Rattle.levels.specs.Levels.{Meets}
use Rattle.levels.specs.Counts.{count_on}
use Rattle.levels.proofs.Crossing.{is_same, without, same_self, crossing_keeps}
use Rattle.levels.proofs.Mono.{counts_monotone}
use Rattle.lists.specs.declared.choice.Choice.{Choice}
use Rattle.propagation.specs.declared.domains.Domains.{Domains}
use Rattle.propagation.specs.Lists.{Pending}
use Rattle.propagation.specs.State.{Sub, Sound, Narrowed}
use Rattle.propagation.proofs.Spreading.{sound_of}
use Rattle.propagation.proofs.Waiting.{pending_out}

pub narrowed_same : (c : ℕ) (m : Meaning) (d₀ d d' : Domains) → Narrowed c m d₀ d → d'.kept ≡ d.kept → Narrowed c m d₀ d'
narrowed_same c m d₀ d d' n e = record {
  less = subst (λ (k : List ℕ). Sub (words k) (words d₀.kept)) (sym e) n.less;
  safe = λ s cs si i a h. let r = n.safe s cs si i a h in (r.0, r.1, subst (λ (k : List ℕ). T (words k i a)) (sym e) r.2);
}

pub narrowed_more : (c : ℕ) (m : Meaning) (d d' d'' : Domains) → Narrowed c m d d' → Narrowed c m d' d'' → Narrowed c m d d''
narrowed_more c m d d' d'' p q = record { less = λ i a t. p.less i a (q.less i a t); safe = λ s cs si. q.safe s cs (p.safe s cs si) }

-- crossing out what fails among those seen loses no closed set inside those kept
narrowed_out : (c : ℕ) (m : Meaning) (d₀ d d' : Domains) (i a : ℕ) → Sub (words d.kept) (words d.seen) → Narrowed c m d₀ d
    → (Meets (count_on c) m (words d.seen) i a → ⊥) → words d'.kept ≡ without (words d.kept) i a → Narrowed c m d₀ d'
narrowed_out c m d₀ d d' i a inside n fails ek = record {
  less = subst (λ (k : Set). Sub k (words d₀.kept)) (sym ek) (λ j b u. n.less j b (and_l (kept j b) (not (is_same i a j b)) u));
  safe = λ s cs si. subst (Inside m s) (sym ek) (λ j b h.
      let k = n.safe s cs si j b h in
      let v = crossing_keeps (count_on c) m (counts_monotone c m) s cs (words d.seen) i a (λ x y z. let r = n.safe s cs si x y z in (r.0, r.1, inside x y r.2)) fails j b h in
      (h.0, h.1, and_i (kept j b) (not (is_same i a j b)) k.2 (and_r (words d.seen j b) (not (is_same i a j b)) v.2)));
}
  where
    kept : Set
    kept = words d.kept

abbrev pub Revising : ℕ → Meaning → Domains → Domains → List ℕ → Bag Choice → ℕ → ℕ → ℕ → Type 0
Revising c m d₀ d bytes waiting room i n =
    Sound c m d bytes × Pending m (words d.kept) (words d.seen) waiting room × Narrowed c m d₀ d
    × ((x : ℕ) → x < n → T (words d.kept i x) → Meets (count_on c) m (words d.seen) i x)

module _ (c : ℕ) (m : Meaning) (d₀ d : Domains) (bytes : List ℕ) (w : Bag Choice) (room i a : ℕ) (inv : Revising c m d₀ d bytes w room i a) where
  pub revising_out : (d' : Domains) → T (words d.kept i a) → (Meets (count_on c) m (words d.seen) i a → ⊥)
      → ((j b : ℕ) → words d'.kept j b ≡ without (words d.kept) i a j b) → d'.seen ≡ d.seen → d'.marked ≡ d.marked
      → Revising c m d₀ d' bytes (add (record { item = i; option = a }) w) room i (a + 1)
  revising_out d' t fails ek es em =
      let kept : Set = words d.kept in
      let seen : Set = words d.seen in
      let s = inv.0 in
      let fewer : (j b : ℕ) → T (without kept i a j b) → T (kept j b) = λ j b u. and_l (kept j b) (not (is_same i a j b)) u in
      let ek' : words d'.kept ≡ without kept i a = fun_ext (λ j. fun_ext (λ b. ek j b)) in
      let es' : words d'.seen ≡ seen = ap words es in (
        sound_of c m d' bytes (without kept i a) seen ek' es' s.long s.there (λ j b u. s.inside j b (fewer j b u))
            (λ x y j h l. s.support x y j (h.0, h.1, fewer x y h.2) l)
            (λ x y h n. s.met x y (h.0, h.1, fewer x y h.2) (λ u. n (subst (λ (z : ℕ). T (bit z x)) (sym em) u))),
        subst₂ (λ (k v : Set). Pending m k v (add (record { item = i; option = a }) w) room) (sym ek') (sym es') (pending_out m kept seen room w s.inside s.there i a inv.1 t),
        narrowed_out c m d₀ d d' i a s.inside inv.2 fails ek',
        λ x xl u.
            let v : T (without kept i a i x) = subst (λ (k : Set). T (k i x)) ek' u in
            elim (ℕ_discrete x a) [
              | yes e ↦ absurd (not_e (is_same i a i x) (and_r (kept i x) (not (is_same i a i x)) v) (subst (λ (y : ℕ). T (is_same i a i y)) (sym e) (same_self i a)))
              | no ne ↦ subst (λ (z : Set). Meets (count_on c) m z i x) (sym es') (inv.3 x (omega arith) (fewer i x v))
            ],
      )

  pub revising_stay : (T (words d.kept i a) → Meets (count_on c) m (words d.seen) i a) → Revising c m d₀ d bytes w room i (a + 1)
  revising_stay h = (
    inv.0,
    inv.1,
    inv.2,
    λ x xl u. elim (ℕ_discrete x a) [
      | yes e ↦ subst (λ (y : ℕ). Meets (count_on c) m (words d.seen) i y) (sym e) (h (subst (λ (y : ℕ). T (words d.kept i y)) e u))
      | no ne ↦ inv.3 x (omega arith) u
    ],
  )

pub sound_unmark : (c : ℕ) (m : Meaning) (d d' : Domains) (bytes : List ℕ) (i : ℕ) → Sound c m d bytes → d'.kept ≡ d.kept → d'.seen ≡ d.seen
    → ((x : ℕ) → bit d'.marked x ≡ (bit d.marked x && not (eqb i x)))
    → ((a : ℕ) → a < m.options i → T (words d.kept i a) → Meets (count_on c) m (words d.seen) i a) → Sound c m d' bytes
sound_unmark c m d d' bytes i s ek es em here =
    sound_of c m d' bytes (words d.kept) (words d.seen) (ap words ek) (ap words es) s.long s.there s.inside s.support
    (λ x a h n. elim (ℕ_discrete x i) [
      | yes e ↦
          (let h2 : Has m (words d.kept) i a = subst (λ (y : ℕ). Has m (words d.kept) y a) e h in
          subst (λ (y : ℕ). Meets (count_on c) m (words d.seen) y a) (sym e) (here a h2.1 h2.2))
      | no ne ↦ s.met x a h (λ t. n (subst T (sym (em x)) (and_i (bit d.marked x) (not (eqb i x)) t (not_i (eqb i x) (λ e. ne (sym (eqb→eq i x e)))))))
    ])
