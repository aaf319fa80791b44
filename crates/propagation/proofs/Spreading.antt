-- Spreading the crossing-out of b of j: the counts that it lowers and the items that it marks keep the invariant.
use Rattle.std.proofs.Common.{◌≡◌, ℕ, ◌-◌, ◌*◌, ◌<◌, ◌≤◌, Bool, not, ◌&&◌, T, ◌≢◌, List, length, sym, ap, ◌∙◌, subst, subst₂, inl, inr, arith}
use mathlib.Core.Path.{fun_ext}
use native.Mathlib.Decide.{ℕ_discrete}
use Rattle.bits.specs.Below.{one_if}
use Rattle.bits.specs.Bits.{bit}
use Rattle.bits.proofs.Counts.{one_if_yes, one_if_no}
use Rattle.bits.proofs.Tests.{and_l, and_r, and_i, not_e, not_i, T_or_not}
use Rattle.meaning.specs.Meaning.{Meaning, Lawful}
use Rattle.levels.specs.Sets.{Set, words}
use Rattle.levels.specs.Levels.{Linked}
use Rattle.levels.specs.Counts.{partners}
use Rattle.levels.proofs.Counts.{partner_counts}
use Rattle.levels.proofs.Crossing.{is_same, without, same_e, without_else}
use Rattle.levels.proofs.Mono.{counts_near}
use Rattle.levels.proofs.Partners.{partners_drop, partners_stay, partners_else}
use Rattle.propagation.specs.declared.domains.Domains.{Domains}
use Rattle.levels.specs.Counted.{place, byte}
use Rattle.propagation.specs.State.{There, Sub, Support, Met, Sound}
use Rattle.propagation.specs.Lowering.{PartnersLeft, Lowers, SameElse}
use Rattle.propagation.proofs.Bytes.{apart_on}

-- the invariant of domains whose sets are known
pub sound_of : (c : ℕ) (m : Meaning) (d : Domains) (bytes : List ℕ) (kept seen : Set) → words d.kept ≡ kept → words d.seen ≡ seen
    → 1024 * m.items ≤ length bytes → There m seen → Sub kept seen → Support m kept seen bytes → Met c m kept seen (bit d.marked) → Sound c m d bytes
sound_of c m d bytes kept seen ek es long there sub sup met = record {
  long = long;
  there = subst (There m) (sym es) there;
  inside = subst₂ Sub (sym ek) (sym es) sub;
  support = subst₂ (λ (k s : Set). Support m k s bytes) (sym ek) (sym es) sup;
  met = subst₂ (λ (k s : Set). Met c m k s (bit d.marked)) (sym ek) (sym es) met;
}

pub there_without : (m : Meaning) (s : Set) (i a : ℕ) → There m s → There m (without s i a)
there_without m s i a there j b t = let h = there j b (and_l (s j b) (not (is_same i a j b)) t) in (h.0, h.1, t)

module _ (m : Meaning) (kept seen : Set) (j b : ℕ) (there : There m seen) (t : T (seen j b)) where
  -- a count that is lowered was not 0
  pub support_one : (bytes : List ℕ) → Support m kept seen bytes → Sub kept seen → PartnersLeft m kept j b bytes
  support_one bytes sup sub i a il al l h =
      let k : T (kept i a) = and_l (kept i a) (m.together i a j b) h in
      let th = there j b t in
      subst (λ (n : ℕ). 1 ≤ n) (sym (sup i a j (il, (there i a (sub i a k)).1, k) (th.0, l)))
      (partner_counts m seen i a j b (th, and_r (kept i a) (m.together i a j b) h))

  support_without : (old new : List ℕ) → Support m kept seen old
      → ((i a : ℕ) → i < m.items → a < m.options i → byte new i a j ≡ byte old i a j - one_if (m.linked i j && (kept i a && m.together i a j b)))
      → ((i a k : ℕ) → i < m.items → a < m.options i → k < m.items → k ≢ j → byte new i a k ≡ byte old i a k)
      → Support m kept (without seen j b) new
  support_without old new sup mine others i a k h l =
      elim (ℕ_discrete k j) [
        | no ne ↦ others i a k h.0 h.1 l.0 ne ∙ (sup i a k h l ∙ partners_else m seen i a j b k ne)
        | yes e ↦ subst (λ (y : ℕ). byte new i a y ≡ partners m (without seen j b) i a y) (sym e) (at_j (subst (λ (y : ℕ). Linked m i y) e l))
      ]
    where
      at_j : Linked m i j → byte new i a j ≡ partners m (without seen j b) i a j
      at_j l2 =
          let e1 = mine i a h.0 h.1 in
          let e2 = sup i a j h l2 in
          elim (T_or_not (m.together i a j b)) [
            | inl u ↦
                (let o = one_if_yes (m.linked i j && (kept i a && m.together i a j b)) (and_i (m.linked i j) _ l2.1 (and_i (kept i a) (m.together i a j b) h.2 u)) in
                let e3 = partners_drop m seen i a j b (there j b t).1 t u in
                omega (arith, o, e1, e2, e3))
            | inr n ↦
                (let o = one_if_no (m.linked i j && (kept i a && m.together i a j b)) (λ v. n (and_r (kept i a) (m.together i a j b) (and_r (m.linked i j) _ v))) in
                let e3 = partners_stay m seen i a j b n in
                omega (arith, o, e1, e2, e3))
          ]

  inside_without : (T (kept j b) → ⊥) → Sub kept seen → Sub kept (without seen j b)
  inside_without out sub i a k =
      and_i (seen i a) (not (is_same j b i a)) (sub i a k)
      (not_i (is_same j b i a) (λ e. let q = same_e j b i a e in out (subst₂ (λ (x y : ℕ). T (kept x y)) (sym q.0) (sym q.1) k)))

  -- an item that is not marked is not linked with j, and nothing else has changed
  met_without : (c : ℕ) (f f' : ℕ → Bool) → Met c m kept seen f → ((x : ℕ) → x < m.items → T (m.linked x j) → T (f' x)) → ((x : ℕ) → T (f x) → T (f' x))
      → Met c m kept (without seen j b) f'
  met_without c f f' met done still i a h n =
      counts_near c m seen (without seen j b) i a
      (λ k x l. sym (without_else seen j b k x (λ e. n (done i h.0 (subst (λ (y : ℕ). T (m.linked i y)) e l.1)))))
      (met i a h (λ u. n (still i u)))

module _ (c : ℕ) (m : Meaning) (law : Lawful m) (d d' : Domains) (old new : List ℕ) (j b : ℕ) (s : Sound c m d old)
    (out : T (words d.seen j b && not (words d.kept j b))) where
  pub sound_spread : d'.kept ≡ d.kept → ((i a : ℕ) → words d'.seen i a ≡ without (words d.seen) j b i a)
      → ((x : ℕ) → x < m.items → T (m.linked x j) → T (bit d'.marked x)) → ((x : ℕ) → T (bit d.marked x) → T (bit d'.marked x))
      → length new ≡ length old → Lowers m (words d.kept) j b old new → SameElse m j old new → Sound c m d' new
  sound_spread ek es done still same mine others =
      let kept : Set = words d.kept in
      let seen : Set = words d.seen in
      let t : T (seen j b) = and_l (seen j b) (not (kept j b)) out in
      let gone : T (kept j b) → ⊥ = not_e (kept j b) (and_r (seen j b) (not (kept j b)) out) in
      let most = law.items_most in
      let jl = (s.there j b t).0 in
      sound_of c m d' new kept (without seen j b) (ap words ek) (fun_ext (λ i. fun_ext (λ a. es i a))) (omega (arith, same, s.long)) (there_without m seen j b s.there)
      (inside_without m kept seen j b s.there t gone s.inside)
      (support_without m kept seen j b s.there t old new s.support
      (λ i a il al. let few = law.options_most i in mine i a il (omega arith))
      (λ i a k il al kl ne. let few = law.options_most i in others (place i a k) (λ x y xl yl. apart_on i a k x y j (omega arith) yl (omega arith) (omega arith) ne)))
      (met_without m kept seen j b s.there t c (bit d.marked) (bit d'.marked) s.met done still)
