-- One state leads to another, by the bits that an array answers on the way.
use Prim.Native.Nat.{ℕ, zero, suc, ◌^◌}
use mathlib.Core.Path.{◌≡◌, refl, ap, sym, subst, ◌∙◌}
use mathlib.Core.Bool.{Bool}
use mathlib.Core.Option.{Option, none, some}
use mathlib.Core.List.{List, [], ◌∷◌, ◌++◌}
use lib.ListN.{take}
use Rattle.nls.specs.Scan.{State, Look, over, silent, asks, Question, look, tell, settle, ask, asked, next, reach}
use Rattle.nls.proofs.Arrays.{answers_of, Bits, ans, told, Fit}
use Rattle.nls.proofs.Machine.Run.{settle_hush, settle_asks, settle_over, reach_append, fit_append}

-- each question of a run comes while k planes are left
abbrev pub In : ℕ → ℕ → State → List Bool → Type 0
In N k s [] = Unit {0}
In N k s (a ∷ u) = (s.left ≡ k) × In N k (next (4 ^ N) s a) u

-- s and t need not be settled. A run, and a run in which k planes are left
pub record Runs (N : ℕ) (A : Bits) (s : State) (o : List Bool) (t : State) : Type 0 where
  pub fits : Fit N A (settle (4 ^ N) s) o
  pub ends : reach (4 ^ N) (settle (4 ^ N) s) o ≡ settle (4 ^ N) t

pub record Leads (N : ℕ) (A : Bits) (k : ℕ) (s : State) (o : List Bool) (t : State) : Type 0 where
  pub runs : Runs N A s o t
  pub stays : In N k (settle (4 ^ N) s) o

in_append : (N k : ℕ) (s : State) (u v : List Bool) → In N k s u → In N k (reach (4 ^ N) s u) v → In N k s (u ++ v)
unfolding reach
in_append N k s [] v f g = g
in_append N k s (a ∷ u) v f g = (f.0, in_append N k (next (4 ^ N) s a) u v f.1 g)

module _ (N : ℕ) (A : Bits) where
  abbrev I : ℕ
  I = 4 ^ N

  pub runs_none : (s : State) → Runs N A s [] s
  unfolding reach
  runs_none s = record { fits = tt; ends = refl }

  pub runs_then : (s t u : State) (o p : List Bool) → Runs N A s o t → Runs N A t p u → Runs N A s (o ++ p) u
  runs_then s t u o p x y =
      record {
        fits = fit_append N A (settle I s) o p x.fits (subst (λ (r : State). Fit N A r p) (sym x.ends) y.fits);
        ends = reach_append N (settle I s) o p ∙ ap (λ (r : State). reach (4 ^ N) r p) x.ends ∙ y.ends;
      }

  module _ (k : ℕ) where
    pub leads_none : (s : State) → Leads N A k s [] s
    leads_none s = record { runs = runs_none s; stays = tt }

    pub leads_hush : (s t : State) → look I s ≡ silent t → Leads N A k s [] t
    unfolding reach
    leads_hush s t e = record { runs = record { fits = tt; ends = settle_hush I s t e }; stays = tt }

    pub leads_asks : (s : State) (q : Question) (a : Bool) → s.left ≡ k → look I s ≡ asks q → ans N A q ≡ a → Leads N A k s (a ∷ []) (tell I s a)
    unfolding reach next ask
    leads_asks s q a w e h =
        let still : settle I s ≡ s = settle_asks I s q e in
        let o : asked I (look I s) ≡ some q = ap (λ (L : Look). asked I L) e in
        record {
          runs = record {
            fits = subst (λ (r : State). Fit N A r (a ∷ [])) (sym still) (subst (λ (x : Option Question). told N A x a) (sym o) h, tt);
            ends = ap (λ (r : State). settle I (tell I r a)) still;
          };
          stays = subst (λ (r : State). In N k r (a ∷ [])) (sym still) (w, tt);
        }

    pub leads_then : (s t u : State) (o p : List Bool) → Leads N A k s o t → Leads N A k t p u → Leads N A k s (o ++ p) u
    leads_then s t u o p x y =
        record {
          runs = runs_then s t u o p x.runs y.runs;
          stays = in_append N k (settle I s) o p x.stays (subst (λ (r : State). In N k r p) (sym x.runs.ends) y.stays);
        }

    -- one bit and then more
    pub leads_bit : (s u : State) (q : Question) (a : Bool) (o : List Bool) → s.left ≡ k → look I s ≡ asks q → ans N A q ≡ a → Leads N A k (tell I s a) o u → Leads N A k s (a ∷ o) u
    leads_bit s u q a o w e h x = leads_then s (tell I s a) u (a ∷ []) o (leads_asks s q a w e h) x

    pub leads_hushed : (s t u : State) (o : List Bool) → Leads N A k s o t → look I t ≡ silent u → Leads N A k s o u
    leads_hushed s t u o x e = record { runs = record { fits = x.runs.fits; ends = x.runs.ends ∙ settle_hush I t u e }; stays = x.stays }

  -- where a run that fits is over, it is the stream, and a budget takes its first bits
  pub stream_is : (s : State) (u : List Bool) (n : ℕ) → Fit N A s u → ask I (reach (4 ^ N) s u) ≡ none → answers_of N A n s ≡ take n u
  unfolding answers_of reach
  stream_is s u zero f e = refl
  stream_is s [] (suc n) f e = rw (e, answers_of)
  stream_is s (a ∷ u) (suc n) f e = go (ask I s) f.0 (stream_is (next I s a) u n f.1 e)
    where
      go : (o : Option Question) → told N A o a → answers_of N A n (next I s a) ≡ take n u
          → (elim o as (λ _. List Bool) [ none ↦ [] | some q ↦ ans N A q ∷ answers_of N A n (next I s (ans N A q)) ]) ≡ a ∷ take n u
      go none t ih = absurd t
      go (some q) t ih = rw t (ap {B = List Bool} (λ r. a ∷ r) ih)

  pub over_none : (s : State) → look I s ≡ over → ask I s ≡ none
  unfolding ask
  over_none s e = ap (λ (L : Look). asked I L) e

  pub runs_stream : (s t : State) (u : List Bool) → Runs N A s u t → look I t ≡ over → (n : ℕ) → answers_of N A n (settle I s) ≡ take n u
  runs_stream s t u x e n =
      stream_is (settle I s) u n x.fits (over_none (reach (4 ^ N) (settle I s) u) (ap (λ (r : State). look I r) (x.ends ∙ settle_over I t e) ∙ e))

  pub runs_ends : (s t : State) (u : List Bool) → Runs N A s u t → look I t ≡ over → reach (4 ^ N) (settle I s) u ≡ t
  runs_ends s t u x e = x.ends ∙ settle_over I t e
