-- What the table of marks holds, from which sets are split. A mark is known from the split sets and from the mark at a quarter of its place.
use mathlib.Core.Path.{◌≡◌, refl, sym, ap, subst, ◌∙◌}
use mathlib.Core.Bool.{Bool, true, false, ◌||◌, true≢false, false≢true}
use Prim.Native.Nat.{ℕ, zero, suc, ◌+◌, ◌*◌, ◌-◌, ◌/◌, ◌%◌, ◌^◌, ◌≤◌, ◌<◌}
use native.Mathlib.Omega.{arith}
use native.Mathlib.Nat.{pow-succ'}
use native.Mathlib.Decide.{dec_lt, ℕ_discrete}
use lib.Dec.{ltb, lit<, lit≤}
use borrow.Author.Tests.{ltb-false, le-ltb, lt-ltb}
use Rattle.tree.proofs.Lists.{or_left, or_right}
use Rattle.nls.specs.Marks.{skip}
use Rattle.nls.proofs.Tiled.{Tiled}
use Rattle.nls.proofs.Booleans.{neither, or_off}

-- which sets are split, and the marks of the coefficients that stand alone
pub record Cfg : Type 0 where
  pub s_d : ℕ → Bool
  pub s_g : ℕ → Bool
  pub al : ℕ → ℕ

-- the mark one level down, at the head of a set's next row
unfoldable pub up : ℕ → ℕ
up x = elim (ltb x 5) [ true ↦ 0 | false ↦ elim (ltb x 7) [ true ↦ x + 2 | false ↦ x + 1 ] ]

module _ (D I : ℕ) where
  unfoldable pub alone : Cfg → ℕ → Bool
  alone c j = ltb j D || c.s_d (j / 4)

  unfoldable pub stands : Cfg → ℕ → Bool
  stands c h = ltb h D || c.s_g (h / 4)

  pub record Ok (c : Cfg) : Type 0 where
    pub gd : (q : ℕ) → c.s_g q ≡ true → c.s_d q ≡ true
    pub dg : (h : ℕ) → c.s_d h ≡ true → stands c h ≡ true
    pub lo : (h : ℕ) → c.s_d h ≡ true → D ≤ 4 * h
    pub hi : (h : ℕ) → c.s_d h ≡ true → 4 * h < I

  pub record Table (c : Cfg) (m : ℕ → ℕ) : Type 0 where
    pub solo : (j : ℕ) → j < I → alone c j ≡ true → m j ≡ c.al j
    pub odd : (j : ℕ) → j < I → alone c j ≡ false → (j % 4 ≡ 0 → ⊥) → m j ≡ 0
    pub head : (j : ℕ) → j < I → alone c j ≡ false → j % 4 ≡ 0 → stands c (j / 4) ≡ true → m j ≡ 5
    pub side : (j : ℕ) → j < I → alone c j ≡ false → stands c (j / 4) ≡ false → (j / 4 % 4 ≡ 0 → ⊥) → m j ≡ 0
    pub mid : (j : ℕ) → j < I → alone c j ≡ false → j % 4 ≡ 0 → stands c (j / 4) ≡ false → j / 4 % 4 ≡ 0 → c.s_d (j / 4 / 4) ≡ true → m j ≡ 6
    pub deep : (j : ℕ) → j < I → alone c j ≡ false → j % 4 ≡ 0 → stands c (j / 4) ≡ false → j / 4 % 4 ≡ 0 → c.s_d (j / 4 / 4) ≡ false → m j ≡ up (m (j / 4))

  -- off the coarsest band: alone as the parent's DESC is split, standing as its GRAND is
  alone_far : (c : Cfg) (j : ℕ) → D ≤ j → alone c j ≡ c.s_d (j / 4)
  unfolding alone
  alone_far c j h = or_off (ltb j D) (c.s_d (j / 4)) (le-ltb j D h)

  stands_far : (c : Cfg) (h : ℕ) → D ≤ h → stands c h ≡ c.s_g (h / 4)
  unfolding stands
  stands_far c h l = or_off (ltb h D) (c.s_g (h / 4)) (le-ltb h D l)

  pub alone_no : (c : Cfg) (j : ℕ) → D ≤ j → c.s_d (j / 4) ≡ false → alone c j ≡ false
  alone_no c j h k = alone_far c j h ∙ k

  pub alone_yes : (c : Cfg) (j : ℕ) → D ≤ j → alone c j ≡ true → c.s_d (j / 4) ≡ true
  alone_yes c j h k = sym (alone_far c j h) ∙ k

  pub alone_low : (c : Cfg) (j : ℕ) → j < D → alone c j ≡ true
  unfolding alone
  alone_low c j h = or_left (ltb j D) (c.s_d (j / 4)) (lt-ltb j D h)

  pub alone_kid : (c : Cfg) (j : ℕ) → c.s_d (j / 4) ≡ true → alone c j ≡ true
  unfolding alone
  alone_kid c j e = or_right (ltb j D) (c.s_d (j / 4)) e

  pub no_alone : (c : Cfg) (j : ℕ) → alone c j ≡ false → (D ≤ j) × (c.s_d (j / 4) ≡ false)
  unfolding alone
  no_alone c j h = let r : (ltb j D ≡ false) × (c.s_d (j / 4) ≡ false) = neither (ltb j D) (c.s_d (j / 4)) h in (ltb-false j D r.0, r.1)

  pub stands_no : (c : Cfg) (h : ℕ) → D ≤ h → c.s_g (h / 4) ≡ false → stands c h ≡ false
  stands_no c h l k = stands_far c h l ∙ k

  pub stands_yes : (c : Cfg) (h : ℕ) → D ≤ h → stands c h ≡ true → c.s_g (h / 4) ≡ true
  stands_yes c h l k = sym (stands_far c h l) ∙ k

  pub stands_low : (c : Cfg) (h : ℕ) → h < D → stands c h ≡ true
  unfolding stands
  stands_low c h l = or_left (ltb h D) (c.s_g (h / 4)) (lt-ltb h D l)

  pub stands_kid : (c : Cfg) (h : ℕ) → c.s_g (h / 4) ≡ true → stands c h ≡ true
  unfolding stands
  stands_kid c h e = or_right (ltb h D) (c.s_g (h / 4)) e

  pub no_stands : (c : Cfg) (h : ℕ) → stands c h ≡ false → (D ≤ h) × (c.s_g (h / 4) ≡ false)
  unfolding stands
  no_stands c h k = let r : (ltb h D ≡ false) × (c.s_g (h / 4) ≡ false) = neither (ltb h D) (c.s_g (h / 4)) k in (ltb-false h D r.0, r.1)

  -- contrapositives
  flip : (a b : Bool) → (a ≡ true → b ≡ true) → b ≡ false → a ≡ false
  flip true b f h = absurd (true≢false (sym (f refl) ∙ h))
  flip false b f h = refl

  pub no_gd : (c : Cfg) → Ok c → (q : ℕ) → c.s_d q ≡ false → c.s_g q ≡ false
  no_gd c o q = flip (c.s_g q) (c.s_d q) (o.gd q)

  pub no_dg : (c : Cfg) → Ok c → (h : ℕ) → stands c h ≡ false → c.s_d h ≡ false
  no_dg c o h = flip (c.s_d h) (stands c h) (o.dg h)

  -- below a place that does not stand alone, nothing does, but where a set is split at its head
  pub low : (c : Cfg) → Ok c → (j : ℕ) → D ≤ j / 4 → alone c (j / 4) ≡ false → (stands c (j / 4) ≡ false) × (alone c j ≡ false)
  low c o j h a =
      let s : stands c (j / 4) ≡ false = stands_no c (j / 4) h (no_gd c o (j / 4 / 4) (no_alone c (j / 4) a).1) in
      (s, alone_no c j (omega arith) (no_dg c o (j / 4) s))

pub up_low : (x : ℕ) → x < 5 → up x ≡ 0
unfolding up
up_low x h = go (ltb x 5) (lt-ltb x 5 h)
  where
    go : (t : Bool) → t ≡ true → ◌≡◌ {A = ℕ} (elim t as (λ _. ℕ) [ true ↦ 0 | false ↦ elim (ltb x 7) as (λ _. ℕ) [ true ↦ x + 2 | false ↦ x + 1 ] ]) 0
    go true e = refl
    go false e = absurd (false≢true e)

pub up_5 : (x : ℕ) → 5 ≤ x → x < 7 → up x ≡ x + 2
unfolding up
up_5 x h k = rw (le-ltb x 5 h, lt-ltb x 7 k, up)

pub up_7 : (x : ℕ) → 7 ≤ x → up x ≡ x + 1
unfolding up
up_7 x h = rw (le-ltb x 5 (omega arith), le-ltb x 7 h, up)

pub skip_5 : (x : ℕ) → 5 ≤ x → x < 7 → skip x ≡ 4 ^ (x - 4)
unfolding skip
skip_5 x h k = rw (le-ltb x 5 h, lt-ltb x 7 k, skip)

pub skip_7 : (x : ℕ) → 7 ≤ x → skip x ≡ 4 ^ (x - 5)
unfolding skip
skip_7 x h = rw (le-ltb x 5 (omega arith), le-ltb x 7 h, skip)

pub skip_up : (x : ℕ) → 5 ≤ x → skip (up x) ≡ 4 * skip x
skip_up x h = go (dec_lt x 7)
  where
    go : Dec (x < 7) → skip (up x) ≡ 4 * skip x
    go (yes k) =
        ap skip (up_5 x h k) ∙ skip_7 (x + 2) (omega arith) ∙ ap (λ (e : ℕ). 4 ^ e) {x = x + 2 - 5} {y = suc (x - 4)} (omega arith) ∙ pow-succ' 4 (x - 4) ∙ ap (λ (e : ℕ). 4 * e) (sym (skip_5 x h k))
    go (no k) =
        let k7 : 7 ≤ x = omega arith in
        ap skip (up_7 x k7) ∙ skip_7 (x + 1) (omega arith) ∙ ap (λ (e : ℕ). 4 ^ e) {x = x + 1 - 5} {y = suc (x - 5)} (omega arith) ∙ pow-succ' 4 (x - 5) ∙ ap (λ (e : ℕ). 4 * e) (sym (skip_7 x k7))

pub up_big : (x : ℕ) → 5 ≤ up x → 5 ≤ x
up_big x h = go (dec_lt x 5)
  where
    go : Dec (x < 5) → 5 ≤ x
    go (yes k) = absurd (omega (arith, h, up_low x k))
    go (no k) = omega arith

module _ {D I : ℕ} (sz : Tiled D I) where
  abbrev pub Gap : Cfg → (ℕ → ℕ) → ℕ → Type 0
  Gap c m j = (k : ℕ) → j < k → k < j + skip (m j) → k < I → (alone D I c k ≡ false) × (m k ≡ 0)

  -- below the head of a deeper row
  gap_deep : (c : Cfg) (m : ℕ → ℕ) → Ok D I c → Table D I c m → (j : ℕ) → j < I → alone D I c j ≡ false → j % 4 ≡ 0
      → stands D I c (j / 4) ≡ false → j / 4 % 4 ≡ 0 → c.s_d (j / 4 / 4) ≡ false
      → 5 ≤ m (j / 4) → m j ≡ up (m (j / 4)) → Gap c m (j / 4) → Gap c m j
  gap_deep c m o t j ji a j4 s q4 d big e ih k k1 k2 k3 = go (ℕ_discrete (k / 4) (j / 4))
    where
      size : skip (m j) ≡ 4 * skip (m (j / 4))
      size = ap skip e ∙ skip_up (m (j / 4)) big

      go : Dec (k / 4 ≡ j / 4) → (alone D I c k ≡ false) × (m k ≡ 0)
      go (yes z) =
          let b : alone D I c k ≡ false = alone_no D I c k (omega (arith, (no_alone D I c j a).0)) (subst (λ (h : ℕ). c.s_d h ≡ false) (sym z) (no_alone D I c j a).1) in
          (b, t.odd k k3 b (omega arith))
      go (no z) =
          let up_row : (alone D I c (k / 4) ≡ false) × (m (k / 4) ≡ 0) = ih (k / 4) (omega arith) (omega (arith, size)) (omega arith) in
          let lo : (stands D I c (k / 4) ≡ false) × (alone D I c k ≡ false) = low D I c o k (omega (arith, (no_stands D I c (j / 4) s).0)) up_row.0 in
          (lo.1, last (ℕ_discrete (k % 4) 0) (ℕ_discrete (k / 4 % 4) 0) up_row lo)
        where
          last : Dec (k % 4 ≡ 0) → Dec (k / 4 % 4 ≡ 0) → (alone D I c (k / 4) ≡ false) × (m (k / 4) ≡ 0) → (stands D I c (k / 4) ≡ false) × (alone D I c k ≡ false) → m k ≡ 0
          last (no x) y u l = t.odd k k3 l.1 x
          last (yes x) (no y) u l = t.side k k3 l.1 l.0 y
          last (yes x) (yes y) u l = t.deep k k3 l.1 x l.0 y (no_alone D I c (k / 4) u.0).1 ∙ ap up u.1 ∙ up_low 0 (lit< tt)

  -- no mark inside a skip: all that the scan jumps over, past a mark of a set or of a row, is 0
  gap_fuel : (n : ℕ) (c : Cfg) (m : ℕ → ℕ) → Ok D I c → Table D I c m → (j : ℕ) → j ≤ n → j < I → alone D I c j ≡ false → 5 ≤ m j → Gap c m j
  gap_fuel zero c m o t j jn ji a big = absurd (omega (arith, (no_alone D I c j a).0))
  gap_fuel (suc n) c m o t j jn ji a big = split (ℕ_discrete (j % 4) 0) (stands D I c (j / 4)) refl (ℕ_discrete (j / 4 % 4) 0) (c.s_d (j / 4 / 4)) refl (gap_fuel n c m o t (j / 4))
    where
      dj : D ≤ j
      dj = (no_alone D I c j a).0

      split : Dec (j % 4 ≡ 0) → (x : Bool) → stands D I c (j / 4) ≡ x → Dec (j / 4 % 4 ≡ 0) → (y : Bool) → c.s_d (j / 4 / 4) ≡ y
          → (j / 4 ≤ n → j / 4 < I → alone D I c (j / 4) ≡ false → 5 ≤ m (j / 4) → Gap c m (j / 4)) → Gap c m j
      split (no z) x ex w y ey ih k k1 k2 k3 = absurd (omega (arith, t.odd j ji a z))
      split (yes z) true ex w y ey ih k k1 k2 k3 =
          let sz : skip (m j) ≡ 4 = ap skip (t.head j ji a z ex) ∙ skip_5 5 (lit≤ tt) (lit< tt) in
          let same : k / 4 ≡ j / 4 = omega arith in
          let b : alone D I c k ≡ false = alone_no D I c k (omega (arith, dj)) (subst (λ (h : ℕ). c.s_d h ≡ false) (sym same) (no_alone D I c j a).1) in
          (b, t.odd k k3 b (omega arith))
      split (yes z) false ex (no w) y ey ih k k1 k2 k3 = absurd (omega (arith, t.side j ji a ex w))
      split (yes z) false ex (yes w) true ey ih k k1 k2 k3 =
          let sz : skip (m j) ≡ 16 = ap skip (t.mid j ji a z ex w ey) ∙ skip_5 6 (lit≤ tt) (lit< tt) in
          let same : k / 4 / 4 ≡ j / 4 / 4 = omega arith in
          let s : stands D I c (k / 4) ≡ false = stands_no D I c (k / 4) (omega (arith, (no_stands D I c (j / 4) ex).0)) (subst (λ (h : ℕ). c.s_g h ≡ false) (sym same) (no_stands D I c (j / 4) ex).1) in
          let b : alone D I c k ≡ false = alone_no D I c k (omega (arith, dj)) (no_dg D I c o (k / 4) s) in
          (b, last (ℕ_discrete (k % 4) 0) s b sz)
        where
          last : Dec (k % 4 ≡ 0) → stands D I c (k / 4) ≡ false → alone D I c k ≡ false → skip (m j) ≡ 16 → m k ≡ 0
          last (no x) s b sz = t.odd k k3 b x
          last (yes x) s b sz = t.side k k3 b s (omega arith)
      split (yes z) false ex (yes w) false ey ih k k1 k2 k3 =
          let e : m j ≡ up (m (j / 4)) = t.deep j ji a z ex w ey in
          let big' : 5 ≤ m (j / 4) = up_big (m (j / 4)) (omega arith) in
          let dh : D ≤ j / 4 = (no_stands D I c (j / 4) ex).0 in
          gap_deep c m o t j ji a z ex w ey big' e (ih (omega arith) (omega arith) (alone_no D I c (j / 4) dh ey) big') k k1 k2 k3

  pub gap : (c : Cfg) (m : ℕ → ℕ) → Ok D I c → Table D I c m → (j : ℕ) → j < I → alone D I c j ≡ false → 5 ≤ m j → Gap c m j
  gap c m o t j = gap_fuel j c m o t j (omega arith)
