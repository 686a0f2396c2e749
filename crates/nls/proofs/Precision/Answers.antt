-- The precision of a coefficient over the questions asked: in the plane in progress its own bit was read or a set that holds it was tested 0,
-- or neither was.
use mathlib.Core.Path.{◌≡◌, refl, sym, ap, subst, ◌∙◌}
use mathlib.Core.Bool.{Bool, true, false, false≢true, cond}
use mathlib.Core.Option.{Option, none, some}
use mathlib.Core.List.{List, [], ◌∷◌, ◌++◌}
use Prim.Native.Nat.{ℕ, zero, suc, ◌+◌, ◌-◌, ◌≤◌, ◌<◌}
use native.Mathlib.Omega.{arith}
use native.Mathlib.Decide.{ℕ_discrete}
use lib.IntN.{ℤ}
use lib.ListN.{length, get_or, take, drop, length-replicate, get_or-replicate}
use lib.Seq.{split_at}
use Rattle.sizes.specs.Sizes.{all_of, Sized}
use Rattle.nls.specs.Scan.{Question, State, Pass, look_at, ask, asked, next, reach}
use Rattle.nls.specs.Stream.{begin, after}
use Rattle.nls.specs.Reading.{Known, nothing, learn_at, learned, known, last_plane, precision_at, completes, CompletedBy}
use Rattle.nls.specs.Judging.{Begins}
use Rattle.nls.proofs.Streams.{begins_less}
use Rattle.nls.proofs.Precision.PlaneEnds.{precision_noted}
use Rattle.nls.proofs.Precision.Noted.{completes_at, step_plane, step_long}
use Rattle.nls.proofs.Known.{known_sound, learned_append, left_most}
use Rattle.nls.proofs.Finished.{next_ended}

-- what is asked is asked in a plane
asked_left : (I l : ℕ) (p : Pass) (i : ℕ) (w : Bool) (m : List ℕ) (q : Question) → asked I (look_at I l p i w m) ≡ some q → 1 ≤ l
asked_left I zero p i w m q e = let bad : ◌≡◌ {A = ℕ} 0 1 = cc in omega arith
asked_left I (suc b) p i w m q e = omega arith

pub ask_left : (I : ℕ) (s : State) (q : Question) → ask I s ≡ some q → 1 ≤ s.left
unfolding ask
ask_left I s q e = asked_left I s.left s.pass s.place s.pending s.marks q e

-- ---- a run, from any state s and with any k known
module _ (N L : ℕ) where
  abbrev I : ℕ
  I = all_of N

  reach_ended : (b : ℕ) (s : State) (u : List Bool) → s.left ≤ b → (reach I s u).left ≤ b
  unfolding reach
  reach_ended b s [] h = h
  reach_ended b s (a ∷ u) h = reach_ended b (next I s a) u (next_ended N b s a h)

  -- what is noted in plane b stays so, or is noted again in a lower one
  run_most : (b i : ℕ) (s : State) (k : Known) (u : List Bool) → i < length k.planes → s.left ≤ suc b → get_or k.planes i 0 ≤ b
      → get_or (learned N L s k u).planes i 0 ≤ b
  unfolding learned
  run_most b i s k [] h l e = e
  run_most b i s k (a ∷ u) h l e =
      run_most b i (next I s a) (learn_at N L (ask I s) s a k) u (omega (arith, h, step_long N L (ask I s) s a k)) (next_ended N (suc b) s a l)
      (subst (λ (x : ℕ). x ≤ b) (sym (step_plane N L (ask I s) s a k i h)) (on (completes_at N L (ask I s) s a i)))
    where
      on : (t : Bool) → cond t (s.left - 1) (get_or k.planes i 0) ≤ b
      on true = omega (arith, l)
      on false = e

  -- bit number n of u was taken in the plane that is in progress after u, and completed the coefficient at i
  abbrev Done : State → List Bool → ℕ → ℕ → Type 0
  Done s u i n = (n < length u) × ((q : Question) × (ask I (reach I s (take n u)) ≡ some q) × (completes N L (reach I s (take n u)).pass q (get_or u n false) i ≡ true))
      × ((reach I s (take n u)).left ≡ (reach I s u).left)

  -- where no bit did so, what is noted is a plane that has ended
  run_unread : (i : ℕ) (s : State) (k : Known) (u : List Bool) → i < length k.planes → (reach I s u).left ≤ get_or k.planes i 0
      → ((n : ℕ) → Done s u i n → ⊥) → (reach I s u).left ≤ get_or (learned N L s k u).planes i 0
  unfolding learned reach
  run_unread i s k [] h e f = e
  run_unread i s k (a ∷ u) h e f =
      run_unread i (next I s a) (learn_at N L (ask I s) s a k) u (omega (arith, h, step_long N L (ask I s) s a k))
      (subst (λ (x : ℕ). (reach I (next I s a) u).left ≤ x) (sym (step_plane N L (ask I s) s a k i h)) (on (ask I s) refl (completes_at N L (ask I s) s a i) refl))
      (λ n d. f (suc n) (omega (arith, d.0), d.1, d.2))
    where
      less : (reach I (next I s a) u).left ≤ s.left
      less = reach_ended s.left (next I s a) u (next_ended N s.left s a (omega arith))

      on : (o : Option Question) → ask I s ≡ o → (t : Bool) → completes_at N L o s a i ≡ t → (reach I (next I s a) u).left ≤ cond t (s.left - 1) (get_or k.planes i 0)
      on o eo false et = e
      on none eo true et = absurd (false≢true et)
      on (some q) eo true et = same (ℕ_discrete s.left (reach I (next I s a) u).left)
        where
          same : Dec (s.left ≡ (reach I (next I s a) u).left) → (reach I (next I s a) u).left ≤ s.left - 1
          same (yes z) = absurd (f 0 (omega arith, (q, eo, et), z))
          same (no z) = omega (arith, less, z)

module _ (N L P : ℕ) where
  -- "b if its own bit of the plane b in progress was read (with its sign, where one follows)", or a set that holds it was tested 0 in it
  pub precision_read : (u : List Bool) (i k : ℕ) → i < all_of N → CompletedBy N L P u i k → precision_at N L P u i + 1 ≡ (after N L P u).left
  unfolding learned
  precision_read u i k h c = omega (arith, most, ask_left (all_of N) t c.question c.asked, c.same_plane, (known_sound N L P u).least i h)
    where
      t : State
      t = after N L P (take k u)

      o : Known
      o = known N L P (take k u)

      a : Bool
      a = get_or u k false

      long : i < length o.planes
      long = omega (arith, h, (known_sound N L P (take k u)).long_planes)

      now : get_or (learn_at N L (ask (all_of N) t) t a o).planes i 0 ≡ t.left - 1
      now =
          step_plane N L (ask (all_of N) t) t a o i long
          ∙ ap (λ (r : Option Question). cond (completes_at N L r t a i) (t.left - 1) (get_or o.planes i 0)) c.asked
          ∙ ap (λ (x : Bool). cond x (t.left - 1) (get_or o.planes i 0)) c.completed

      same : known N L P u ≡ learned N L t o (a ∷ drop (suc k) u)
      same =
          ap (λ (v : List Bool). known N L P v) (split_at u k false c.there)
          ∙ learned_append N L (begin N L P) (nothing N P) (take k u) (a ∷ drop (suc k) u)

      most : get_or (known N L P u).planes i 0 ≤ t.left - 1
      most =
          subst (λ (x : Known). get_or x.planes i 0 ≤ t.left - 1) (sym same)
          (run_most N L (t.left - 1) i (next (all_of N) t a) (learn_at N L (ask (all_of N) t) t a o) (drop (suc k) u)
          (omega (arith, long, step_long N L (ask (all_of N) t) t a o)) (next_ended N (suc (t.left - 1)) t a (omega arith)) (omega (arith, now)))

  -- "else the number of the last finished plane, or P if none"
  pub precision_unread : (u : List Bool) (i : ℕ) → i < all_of N → ((k : ℕ) → CompletedBy N L P u i k → ⊥) → precision_at N L P u i ≡ last_plane N L P u
  precision_unread u i h f = omega (arith, high)
    where
      first : get_or (nothing N P).planes i 0 ≡ P
      first = get_or-replicate (all_of N) i P 0 h

      high : last_plane N L P u ≤ get_or (known N L P u).planes i 0
      high =
          run_unread N L i (begin N L P) (nothing N P) u (omega (arith, h, length-replicate (all_of N) P)) (omega (arith, first, left_most N L P u))
          (λ n d. f n (record { there = d.0; question = d.1.0; asked = d.1.1; completed = d.1.2; same_plane = d.2 }))

  -- a bit more, where an array fits: the answer makes some known down to the plane in progress, and no other precision changes
  pub precision_step : Sized N L → (A : List ℤ) (u : List Bool) (a : Bool) → Begins N L P A (u ++ (a ∷ [])) → (q : Question) → ask (all_of N) (after N L P u) ≡ some q
      → (i : ℕ) → i < all_of N → precision_at N L P (u ++ (a ∷ [])) i ≡ cond (completes N L (after N L P u).pass q a i) ((after N L P u).left - 1) (precision_at N L P u i)
  unfolding learned
  precision_step size A u a begins q asks i h =
      precision_noted N L size P A (u ++ (a ∷ [])) begins i h
      ∙ ap (λ (o : Known). get_or o.planes i 0) (learned_append N L (begin N L P) (nothing N P) u (a ∷ []))
      ∙ step_plane N L (ask (all_of N) s) s a (known N L P u) i (omega (arith, h, (known_sound N L P u).long_planes))
      ∙ ap (λ (o : Option Question). cond (completes_at N L o s a i) (s.left - 1) (get_or (known N L P u).planes i 0)) asks
      ∙ ap (λ (n : ℕ). cond (completes N L s.pass q a i) (s.left - 1) n) (sym (precision_noted N L size P A u (begins_less N L size P A u (a ∷ []) begins) i h))
    where
      s : State
      s = after N L P u
