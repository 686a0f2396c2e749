-- The turns of the loops over four places at once: a pass of steps, and the passes one after the other.
use Prim.Native.Nat.{ℕ, ◌+◌, ◌*◌, ◌-◌, ◌≤◌, ◌<◌}
use mathlib.Core.Path.{◌≡◌, refl, sym, ◌∙◌, subst}
use mathlib.Core.List.{List}
use native.Mathlib.Omega.{arith}
use lib.IntN.{ℤ}
use lib.ListN.{length}
use Rattle.walk.specs.Scans.{Scan, planes, left_of, Resumes, left_at, pass_at}
use Rattle.walk.specs.Visits.{Sv, sv, scan_of}
use Rattle.walk.proofs.Fours.{leads_none, leads_on}
use Rattle.walk.proofs.Turns.{resume_all, resume_go, resume_next}
use Rattle.encoder.specs.Writing.{Bytes, bytes, writer, st}
use Rattle.encoder.specs.Sinks.{put_all, low_bits, with_held, held}
use Rattle.encoder.specs.Siblings.{Easy, Led, Gone}
use Rattle.encoder.specs.declared.Sink.{Sink}
use Rattle.encoder.specs.declared.Went.{Went}

module _ (A : List ℤ) (d g : List ℕ) (all budget : ℕ) where
  abbrev E : Scan (Sv Bytes)
  E = scan_of (writer A d g budget) all

  -- a pass: its first step, and one after others
  module _ (b pass place : ℕ) (m o : List ℕ) (s : Sink) where
    pub led_none : Easy budget s → Led A d g all budget b pass place m o s place s m o
    led_none h = record { leads = leads_none E b pass place (sv m (held o s)); easy = h }

    pub led_on : (place₁ : ℕ) (s₁ : Sink) (m₁ o₁ : List ℕ) (r : Went) (m₂ o₂ : List ℕ) → Led A d g all budget b pass place m o s place₁ s₁ m₁ o₁ → Gone A d g all budget b pass place₁ m₁ o₁ s₁ r m₂ o₂
        → Led A d g all budget b pass place m o s r.place r.sink m₂ o₂
    led_on place₁ s₁ m₁ o₁ r m₂ o₂ l h =
        record { leads = leads_on E b pass place place₁ r.place (sv m (held o s)) (sv m₁ (held o₁ s₁)) (sv m₂ (held o₂ r.sink)) l.leads h.led.leads; easy = h.led.easy }

-- what is left of the scan of `count` planes from marks and bytes m₀, o₀ on, with `turn` passes not finished
abbrev pub Resuming : List ℤ → List ℕ → List ℕ → ℕ → ℕ → ℕ → List ℕ → List ℕ → ℕ → ℕ → Sv Bytes → Type 0
Resuming A d g all budget count m₀ o₀ turn place t =
    Resumes (scan_of (writer A d g budget) all) (left_at turn) (pass_at turn) place t (planes (scan_of (writer A d g budget) all) count (st m₀ o₀ 0)) (left_of (scan_of (writer A d g budget) all) count (st m₀ o₀ 0))

-- the passes, each from its first place on
pub record Passing (A : List ℤ) (d g : List ℕ) (all budget count : ℕ) (m₀ o₀ m o : List ℕ) (s : Sink) (turn : ℕ) : Type 0 where
  pub resumes : Resuming A d g all budget count m₀ o₀ turn 0 (sv m (held o s))
  pub easy : Easy budget s
  pub marks : length m ≡ length m₀
  pub bytes : length o ≡ length o₀
  pub turns : turn ≤ 3 * count

module _ (A : List ℤ) (d g : List ℕ) (all budget count : ℕ) (m₀ o₀ : List ℕ) where
  pub first_pass : 64 ≤ budget → Passing A d g all budget count m₀ o₀ m₀ o₀ (record { acc = 0; n = 0; at = 0 }) (3 * count)
  unfolding put_all low_bits
  first_pass h =
      record {
        resumes = resume_all (scan_of (writer A d g budget) all) count (st m₀ o₀ 0);
        easy = record { holds = record { small = omega arith; free = omega arith }; few = omega arith; spent = omega arith };
        marks = refl;
        bytes = refl;
        turns = omega arith;
      }

  -- where `n` bits are put, and all that was held is written
  ended_so : (turn place : ℕ) (m o : List ℕ) (s : Sink) (o₁ : List ℕ) (n : ℕ) → (n ≡ 8 * s.at + s.n) × (o₁ ≡ with_held o s)
      → Resuming A d g all budget count m₀ o₀ turn place (sv m (held o s))
      → Easy budget s → turn ≤ 3 * count
      → Resuming A d g all budget count m₀ o₀ turn place (st m o₁ n) × (turn ≤ 3 * count) × (n ≤ budget)
  ended_so turn place m o s o₁ n e r h t =
      (subst (λ (q : Bytes). Resuming A d g all budget count m₀ o₀ turn place (sv m q)) (λ i. bytes (sym e.1 i) (sym e.0 i)) r, t, omega (arith, e.0, h.spent))

  module _ (m o : List ℕ) (s : Sink) (turn : ℕ) (h : Passing A d g all budget count m₀ o₀ m o s turn) where
    pub all_passed : (o₁ : List ℕ) (n : ℕ) → (n ≡ 8 * s.at + s.n) × (o₁ ≡ with_held o s)
        → Resuming A d g all budget count m₀ o₀ turn 0 (st m o₁ n) × (turn ≤ 3 * count) × (n ≤ budget)
    all_passed o₁ n e = ended_so turn 0 m o s o₁ n e h.resumes h.easy h.turns

    -- a pass more
    module _ (z : 0 < turn) (place : ℕ) (m₁ o₁ : List ℕ) (s₁ : Sink) (l : Led A d g all budget (left_at turn - 1) (pass_at turn) 0 m o s place s₁ m₁ o₁) where
      gone_on : Resuming A d g all budget count m₀ o₀ turn place (sv m₁ (held o₁ s₁))
      gone_on = resume_go (scan_of (writer A d g budget) all) (left_at turn) (pass_at turn) 0 (sv m (held o s)) _ _ h.resumes (omega arith) place (sv m₁ (held o₁ s₁)) l.leads

      pub passed : all ≤ place → length m₁ ≡ length m → length o₁ ≡ length o → Passing A d g all budget count m₀ o₀ m₁ o₁ s₁ (turn - 1)
      passed k em eo =
          record {
            resumes = resume_next (scan_of (writer A d g budget) all) turn place (sv m₁ (held o₁ s₁)) _ _ gone_on z k;
            easy = l.easy;
            marks = em ∙ h.marks;
            bytes = eo ∙ h.bytes;
            turns = omega (arith, h.turns);
          }

      pub left_there : (o₂ : List ℕ) (n : ℕ) → (n ≡ 8 * s₁.at + s₁.n) × (o₂ ≡ with_held o₁ s₁)
          → Resuming A d g all budget count m₀ o₀ turn place (st m₁ o₂ n) × (turn ≤ 3 * count) × (n ≤ budget)
      left_there o₂ n e = ended_so turn place m₁ o₁ s₁ o₂ n e gone_on l.easy h.turns
