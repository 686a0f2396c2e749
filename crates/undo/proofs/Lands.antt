-- The way back leads to one of I places, where there are I marks and a plane is left.
use mathlib.Core.Path.{◌≡◌, refl, sym, subst, ◌∙◌}
use mathlib.Core.Bool.{Bool, true, false, false≢true, ◌&&◌, ◌||◌}
use mathlib.Core.List.{List}
use Prim.Native.Nat.{ℕ, zero, suc, ◌*◌, ◌-◌, ◌%◌, ◌≤◌, ◌<◌}
use native.Mathlib.Omega.{arith}
use borrow.Author.Tests.{eqb-true, eqb-false, ltb-true, ltb-false}
use lib.Dec.{ltb, leb, eqb}
use lib.ListN.{length, get_or, length-set, get_or-eq_default}
use Rattle.sizes.proofs.Laws.{both_left, both_right}
use Rattle.nls.specs.Scan.{Pass, pixels, sets, refining, State}
use Rattle.undo.specs.Back.{Prior, first, quiet, answered, is, block, four_are, many_descs, fresh, unasked, prior_pixels, prior_refining, prior_set, prior_block, prior_sets, prior, back}
use Rattle.undo.proofs.Ends.{block_before}
use Rattle.undo.proofs.Fuel.{behind, nearer, back_first, back_answered, back_quiet}

-- a mark is one of the table
marked : (m : List ℕ) (q c : ℕ) → is m q c ≡ true → 1 ≤ c → q < length m
marked m q c e h = go (ltb q (length m)) refl
  where
    go : (t : Bool) → ltb q (length m) ≡ t → q < length m
    go true f = ltb-true q (length m) f
    go false f = absurd (omega (arith, h, eqb-true (get_or m q 0) c e, get_or-eq_default m 0 {n = q} (ltb-false q (length m) f)))

module _ (I D P : ℕ) (big : ℕ → ℕ → Bool) where
  -- from place q, with l planes left
  abbrev Leads : ℕ → ℕ → Prior → Type 0
  Leads l q first = q ≡ 0
  Leads l q (quiet t) = (l ≤ t.left) × (length t.marks ≡ I) × (t.pending ≡ false)
  Leads l q (answered t) = (l ≤ t.left) × (t.place < I)

  leads_unasked : (l q : ℕ) (p : Pass) (i v : ℕ) (m : List ℕ) (t : Bool) → i < I → Leads l q (unasked I D P big l p i v m t)
  leads_unasked l q p i v m true h = (omega arith, h)
  leads_unasked l q p i v m false h = (omega arith, h)

  module _ (l q : ℕ) (m : List ℕ) (long : length m ≡ I) (k : q ≤ I) where
    leads_pixels : (i : ℕ) (z a s : Bool) → eqb q 0 ≡ z → i ≤ q - 1 → Leads l q (prior_pixels I D P big l i m z a s)
    leads_pixels i true true s ez e = (omega arith, long, refl)
    leads_pixels i true false s ez e = eqb-true q 0 ez
    leads_pixels i false a true ez e = leads_unasked l q pixels i 1 m (is m i 2) (omega (arith, eqb-false q 0 ez, k, e))
    leads_pixels i false a false ez e = (omega arith, long, refl)

    leads_refining : (i : ℕ) (z s o : Bool) → eqb q 0 ≡ z → i ≤ q - 1 → Leads l q (prior_refining I D P big l i m z s o)
    leads_refining i true s o ez e = (omega arith, long, refl)
    leads_refining i false true true ez e = (omega arith, omega (arith, eqb-false q 0 ez, k, e))
    leads_refining i false true false ez e = (omega arith, length-set m i 2 ∙ long, refl)
    leads_refining i false false o ez e = (omega arith, long, refl)

    leads_set : (i : ℕ) (t : Bool) → (q ≡ 0 → ⊥) → i ≤ q - 1 → Leads l q (prior_set I D P big l i m t)
    leads_set i true n e = (omega arith, omega (arith, n, k, e))
    leads_set i false n e = (omega arith, long, refl)

    leads_block : (a n : Bool) → (q ≡ 0 → ⊥) → Leads l q (prior_block I D P big l q m a n)
    leads_block true true n = leads_unasked l q sets (q - 1) 4 m (is m (q - 1) 2) (omega (arith, n, k))
    leads_block true false n = (omega arith, long, refl)
    leads_block false x n = leads_set (block m q) (is m (block m q) 5 || is m (block m q) 6) n (block_before m q)

    leads_sets : (x c y z : Bool) → eqb (q % 4) 0 ≡ x → is m q 4 ≡ c → many_descs D m q ≡ y → eqb q 0 ≡ z → Leads l q (prior_sets I D P big l q m x c y z)
    leads_sets false c y z ex ec ey ez = leads_unasked l q sets (q - 1) 4 m (is m (q - 1) 2) (omega (arith, eqb-false (q % 4) 0 ex, k))
    leads_sets true true y z ex ec ey ez = (omega arith, omega (arith, long, marked m q 4 ec (omega arith)))
    leads_sets true false true z ex ec ey ez = (omega arith, omega (arith, long, marked m q 5 one (omega arith)))
      where
        one : is m q 5 ≡ true
        one = both_left (is m q 5) _ (both_right (leb (4 * D) q) (four_are m q 5) (both_right (eqb (q % 16) 0) (leb (4 * D) q && four_are m q 5) ey))
    leads_sets true false false true ex ec ey ez = (omega arith, long, refl)
    leads_sets true false false false ex ec ey ez =
        leads_block (ltb 0 (get_or m (q - 4) 0) && ltb (get_or m (q - 4) 0) 4) (leb D (q - 4) && fresh I D P big m (q - 4)) (eqb-false q 0 ez)

  -- what the way back goes from
  pub record Goes (s : State) : Type 0 where
    pub planes : s.left ≤ P
    pub some : 1 ≤ s.left
    pub place : s.place ≤ I
    pub waits : s.pending ≡ true → s.place < I
    pub long : length s.marks ≡ I

  prior_leads : (s : State) → Goes s → Leads s.left s.place (prior I D P big s)
  prior_leads s g = go s.left s.pass s.place s.pending s.marks g.place g.waits g.long
    where
      go : (l : ℕ) (p : Pass) (q : ℕ) (w : Bool) (m : List ℕ) → q ≤ I → (w ≡ true → q < I) → length m ≡ I → Leads l q (prior I D P big (record { left = l; pass = p; place = q; pending = w; marks = m }))
      go l p q true m k h n = (omega arith, h refl)
      go l pixels q false m k h n = leads_pixels l q m n k (block m q) (eqb q 0) (ltb l P) (is m (block m q) 1 || is m (block m q) 2) refl (block_before m q)
      go l sets q false m k h n = leads_sets l q m n k (eqb (q % 4) 0) (is m q 4) (many_descs D m q) (eqb q 0) refl refl refl refl
      go l refining q false m k h n = leads_refining l q m n k (block m q) (eqb q 0) (is m (block m q) 3) (big l (block m q)) refl (block_before m q)

  abbrev pub Lands : State → Type 0
  Lands s = (1 ≤ s.left) × (s.place < I)

  lands : (n : ℕ) (s : State) → 1 ≤ I → Goes s → behind I D P big s < n → Lands (back I D P big s)
  lands zero s i g h = absurd (omega (arith, h))
  lands (suc n) s i g h = on (prior I D P big s) refl (prior_leads s g) (λ t. lands n t i)
    where
      on : (x : Prior) → prior I D P big s ≡ x → Leads s.left s.place x → ((t : State) → Goes t → behind I D P big t < n → Lands (back I D P big t)) → Lands (back I D P big s)
      on first e f ih = subst Lands (sym (back_first I D P big s e)) (g.some, omega (arith, i, f))
      on (quiet t) e f ih =
          let w = nearer I D P big s t e g.planes g.place in
          subst Lands (sym (back_quiet I D P big s t e g.planes g.place))
          (ih t (record { planes = w.1; some = omega (arith, g.some, f.0); place = w.2; waits = λ x. absurd (false≢true (sym f.2 ∙ x)); long = f.1 }) (omega (arith, w.0, h)))
      on (answered t) e f ih = subst Lands (sym (back_answered I D P big s t e)) (omega (arith, g.some, f.0), f.1)

  pub back_lands : (s : State) → 1 ≤ I → Goes s → Lands (back I D P big s)
  back_lands s i g = lands (suc (behind I D P big s)) s i g (omega arith)
