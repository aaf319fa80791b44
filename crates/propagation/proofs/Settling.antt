-- The start of a screening, and its end: where nothing waits the domains are the largest closed set.
use Rattle.std.proofs.Common.{◌≡◌, ℕ, ◌*◌, ◌<◌, ◌≤◌, T, List, length, refl, ap, subst}
use Rattle.bags.specs.Bags.{none}
use Rattle.bits.specs.Bits.{bit}
use Rattle.meaning.specs.Meaning.{Meaning}
use Rattle.levels.specs.Sets.{Set, words}
use Rattle.levels.specs.Levels.{Meets}
use Rattle.levels.specs.Counts.{count_on}
use Rattle.levels.specs.Closed.{LargestClosed}
use Rattle.propagation.specs.declared.domains.Domains.{Domains}
use Rattle.propagation.specs.State.{There, Support, Sound, Invariant, Narrowed}
use Rattle.propagation.proofs.Marking.{marks_end}
use Rattle.propagation.proofs.Spreading.{sound_of}
use Rattle.propagation.proofs.Waiting.{pending_end}

pub sound_start : (c : ℕ) (m : Meaning) (d : Domains) (bytes : List ℕ) → d.seen ≡ d.kept → 1024 * m.items ≤ length bytes → There m (words d.kept)
    → Support m (words d.kept) (words d.kept) bytes → ((x : ℕ) → x < m.items → T (bit d.marked x)) → Sound c m d bytes
sound_start c m d bytes e long there sup all =
    sound_of c m d bytes (words d.kept) (words d.kept) refl (ap words e) long there (λ i a t. t) sup (λ i a h n. absurd (n (all i h.0)))

module _ (c : ℕ) (m : Meaning) (d : Domains) (bytes : List ℕ) (room item_room : ℕ) (inv : Invariant c m d bytes none room none item_room) where
  pub all_kept : words d.seen ≡ words d.kept
  all_kept = pending_end m (words d.kept) (words d.seen) room inv.sound.inside inv.pending

  pub settled : (d₀ : Domains) → Narrowed c m d₀ d → LargestClosed (count_on c) m (words d₀.kept) (words d.kept)
  settled d₀ n = record {
    inside = λ i a h. (h.0, h.1, n.less i a h.2);
    closed = λ i a h. subst (λ (s : Set). Meets (count_on c) m s i a) all_kept (inv.sound.met i a h (marks_end m.items item_room (bit d.marked) inv.marks i));
    largest = λ s si cs. n.safe s cs si;
  }
