-- Refusal 12, the other half: where there is no clash, clearing the question leaves every set that was answered 1 a member.
use mathlib.Core.Path.{◌≡◌, refl, sym, ap, subst, ◌∙◌}
use mathlib.Core.Bool.{Bool, true, false, true≢false}
use mathlib.Core.List.{List}
use Prim.Native.Nat.{ℕ, suc, ◌*◌, ◌/◌, ◌^◌, ◌≤◌, ◌<◌}
use native.Mathlib.Omega.{arith}
use native.Mathlib.Decide.{dec_lt}
use lib.ListN.{get_or}
use Rattle.nls.specs.Scan.{Question, bit_of, in_desc, in_grand}
use Rattle.nls.proofs.Tiled.{Tiled}
use Rattle.nls.proofs.Arrays.{Bits}
use Rattle.nls.proofs.Machine.Table.{Cfg, alone, alone_no}
use Rattle.nls.proofs.Machine.Cover.{Under, kid, far, is_alone, is_desc_at, is_grand_at, Desc_at, Grand_at, Alone_at}
use Rattle.nls.proofs.Machine.Steps.{preds, From}
use Rattle.nls.proofs.Reading.Told.{fam, under_ge}
use Rattle.nls.proofs.Judging.Clash.{Clash, dead_d, dead_g, via}
use Rattle.nls.proofs.Judging.Apart.{Cmp, same, over, below, cmp, grand_of, whole_d, whole_g}
use Rattle.nls.proofs.Judging.Room.{Fresh, fresh_of, Spare, now, past, room_child, room_desc, room_grand, room_root}
use Rattle.nls.proofs.Judging.Open.{InPix, InSets, InFine}

pub under_trans : (h g j : ℕ) → Under h g → Under g j → Under h j
under_trans h g j u (kid e) = far (subst (λ (x : ℕ). Under h x) (sym e) u)
under_trans h g j u (far v) = far (under_trans h g (j / 4) u v)

pub trans_grand : (q g j : ℕ) → Under q g → Under g j → Under q (j / 4)
trans_grand q g j u (kid e) = subst (λ (x : ℕ). Under q x) (sym e) u
trans_grand q g j u (far v) = under_trans q g (j / 4) u v

-- a sibling has the same ancestors
sibling : (h g g' : ℕ) → g' / 4 ≡ g / 4 → Under h g → Under h g'
sibling h g g' e (kid z) = kid (e ∙ z)
sibling h g g' e (far u) = far (subst (λ (x : ℕ). Under h x) (sym e) u)

-- Some place of the question is open
abbrev pub Open1 : ℕ → Bits → ℕ → (ℕ → Type 0) → Type 0
Open1 N W b In = (j : ℕ) × (j < 4 ^ N) × In j × (W.has j b ≡ true)

module _ (N : ℕ) {D : ℕ} (P : ℕ) (sz : Tiled D (4 ^ N)) where
  abbrev I : ℕ
  I = 4 ^ N

  -- The question is about the places In, in plane b; W is the greatest array, O was answered 1
  pub record Enough (W : Bits) (O : Question → Type 0) (b : ℕ) (In : ℕ → Type 0) : Type 0 where
    pub e_o : (j : ℕ) → j < I → O (bit_of j b) → In j → ⊥
    pub e_d : (h x : ℕ) → O (in_desc h b) → Under h x → In x → (j : ℕ) × (j < I) × Under h j × (W.has j b ≡ true) × (In j → ⊥) × (1 ≤ h)
    pub e_g : (h x : ℕ) → O (in_grand h b) → Under h (x / 4) → In x → (j : ℕ) × (j < I) × Under h (j / 4) × (W.has j b ≡ true) × (In j → ⊥) × (1 ≤ h)
    pub e_t : suc b ≡ P → (j : ℕ) × (j < I) × (W.has j b ≡ true) × (In j → ⊥)

  module _ (W k : Bits) (vv : Bool) (O : Question → Type 0) (k⊑W : (j e : ℕ) → k.has j e ≡ true → W.has j e ≡ true) (cap : (j e : ℕ) → W.has j e ≡ true → e < P)
      (b t : ℕ) (m : List ℕ) (c : Cfg) (ti : t < I) where
    -- the pixel pass
    module _ (p : InPix N P sz W vv (preds (fam N W k) b) k W O b t c m) (mk : get_or m t 0 ≡ 1) where
      it_p : Alone_at D I c m t
      it_p = is_alone sz c m p.g.core t ti (omega (arith, mk)) (omega (arith, mk))

      pub enough_pix : Enough W O b (λ j. j ≡ t)
      enough_pix = record {
        e_o = λ j hj o e. omega (arith, it_p.1, mk, p.g.more.zs t ti (b, subst (λ (x : ℕ). k.has x b ≡ true) e (p.de.o_o j b o).0));
        e_d = λ h x o u e. absurd (omega (arith, (p.de.o_d h b o).1));
        e_g = λ h x o u e. absurd (omega (arith, (p.de.o_g h b o).1));
        e_t = λ e. (D, omega arith, p.fr.todo D (omega arith) (λ l u z. true≢false (sym (is_alone sz c m p.g.core D (omega arith) l (omega (arith, u))).0 ∙ alone_no D I c D (omega arith) (p.np e (D / 4)))), λ q. low e q (alone D I c t) refl);
      }
        where
          low : suc b ≡ P → D ≡ t → (x : Bool) → alone D I c t ≡ x → ⊥
          low e q x z = true≢false (sym it_p.0 ∙ alone_no D I c t (omega arith) (p.np e (t / 4)))

      pub open_pix : Open1 N W b (λ j. j ≡ t)
      open_pix = (t, ti, refl, p.fr.todo t ti (λ l u z. omega arith))

    -- the refinement pass
    module _ (p : InFine N P sz W vv (preds (fam N W k) b) k W O b t c m) (mk : get_or m t 0 ≡ 3) where
      it_f : Alone_at D I c m t
      it_f = is_alone sz c m p.g.core t ti (omega (arith, mk)) (omega (arith, mk))

      was : (e : ℕ) × (b < e) × (k.has t e ≡ true)
      was = p.fr.m3u t ti (omega arith) mk

      pub enough_fine : Enough W O b (λ j. j ≡ t)
      enough_fine = record {
        e_o = λ j hj o e. omega (arith, (p.de.o_o j b o).2 refl (ap c.al e ∙ it_f.1 ∙ mk));
        e_d = λ h x o u e. absurd (omega (arith, was.1, (p.de.o_d h b o).2 t was.0 ti (subst (λ (y : ℕ). Under h y) e u) was.2));
        e_g = λ h x o u e. absurd (omega (arith, was.1, (p.de.o_g h b o).2 t was.0 ti (subst (λ (y : ℕ). Under h (y / 4)) e u) was.2));
        e_t = λ e. absurd (omega (arith, was.1, cap t was.0 (k⊑W t was.0 was.2)));
      }

      pub open_fine : Open1 N W b (λ j. j ≡ t)
      open_fine = (t, ti, refl, p.ho.op t it_f.0 (it_f.1 ∙ mk) (omega arith))

    -- the set pass
    module _ (above : From sz P (fam N W k) (suc b)) (p : InSets N P sz W vv (preds (fam N W k) b) k W O b t c m) where
      fs : Fresh sz W k b t c
      fs = fresh_of sz W k b t c m ti p.g.core p.fr

      -- a spare place that lies in every set round the question
      use_d : (Sp In : ℕ → Type 0) → Spare sz W k b Sp → ((j : ℕ) → Sp j → In j → ⊥) → (h : ℕ) → O (in_desc h b) → ((j : ℕ) → Sp j → Under h j) → (j : ℕ) × (j < I) × Under h j × (W.has j b ≡ true) × (In j → ⊥) × (1 ≤ h)
      use_d Sp In (now j hj s w) n h o f = (j, hj, f j s, w, n j s, omega (arith, p.g.core.ok.lo h (p.de.o_d h b o).0))
      use_d Sp In (past j e hj s l w) n h o f = absurd (omega (arith, l, (p.de.o_d h b o).2 j e hj (f j s) w))

      use_g : (Sp In : ℕ → Type 0) → Spare sz W k b Sp → ((j : ℕ) → Sp j → In j → ⊥) → (h : ℕ) → O (in_grand h b) → ((j : ℕ) → Sp j → Under h (j / 4)) → (j : ℕ) × (j < I) × Under h (j / 4) × (W.has j b ≡ true) × (In j → ⊥) × (1 ≤ h)
      use_g Sp In (now j hj s w) n h o f = (j, hj, f j s, w, n j s, omega (arith, p.g.core.ok.lo h (p.g.core.ok.gd h (p.de.o_g h b o).0)))
      use_g Sp In (past j e hj s l w) n h o f = absurd (omega (arith, l, (p.de.o_g h b o).2 j e hj (f j s) w))

      use_t : (Sp In : ℕ → Type 0) → Spare sz W k b Sp → ((j : ℕ) → Sp j → In j → ⊥) → suc b ≡ P → (j : ℕ) × (j < I) × (W.has j b ≡ true) × (In j → ⊥)
      use_t Sp In (now j hj s w) n e = (j, hj, w, n j s)
      use_t Sp In (past j x hj s l w) n e = absurd (omega (arith, l, cap j x (k⊑W j x w)))

      -- MCP
      module _ (mk : get_or m t 0 ≡ 4) where
        it_c : Alone_at D I c m t
        it_c = is_alone sz c m p.g.core t ti (omega (arith, mk)) (omega (arith, mk))

        abbrev SpC : ℕ → Type 0
        SpC j = Under (t / 4) j × (j ≡ t → ⊥)

        pub enough_c : (Clash D I P b t m → ⊥) → Enough W O b (λ j. j ≡ t)
        enough_c n = record {
          e_o = λ j hj o e. omega (arith, it_c.1, mk, p.g.more.zs t ti (b, subst (λ (x : ℕ). k.has x b ≡ true) e (p.de.o_o j b o).0));
          e_d = λ h x o u e. use_d SpC (λ j. j ≡ t) sp (λ j s q. s.1 q) h o (λ j s. in_d h j (subst (λ (y : ℕ). Under h y) e u) s.0);
          e_g = λ h x o u e. use_g SpC (λ j. j ≡ t) sp (λ j s q. s.1 q) h o (λ j s. trans_grand h (t / 4) j (subst (λ (y : ℕ). Under h (y / 4)) e u) s.0);
          e_t = use_t SpC (λ j. j ≡ t) sp (λ j s q. s.1 q);
        }
          where
            sp : Spare sz W k b SpC
            sp = room_child N P sz W k k⊑W cap b t m c ti above p.g fs mk n

            in_d : (h j : ℕ) → Under h t → Under (t / 4) j → Under h j
            in_d h j (kid z) v = subst (λ (y : ℕ). Under y j) z v
            in_d h j (far u) v = under_trans h (t / 4) j u v

        pub open_c : Open1 N W b (λ j. j ≡ t)
        open_c = (t, ti, refl, p.fr.f4 t ti mk)

      -- MD
      module _ (mk : get_or m t 0 ≡ 5) where
        is_d : Desc_at D I c t
        is_d = is_desc_at sz c m p.g.core t ti mk

        lo_d : D ≤ 4 * (t / 4)
        lo_d = omega (arith, is_d.0, is_d.3)

        abbrev SpD : ℕ → Type 0
        SpD j = (h : ℕ) × (h / 4 ≡ t / 4 / 4) × (h ≡ t / 4 → ⊥) × Under h j

        out_d : 4 * D ≤ t → (j : ℕ) → SpD j → Under (t / 4) j → ⊥
        out_d big j s u = go (cmp (t / 4) s.0 j u s.3)
          where
            go : Cmp (t / 4) s.0 → ⊥
            go (same e) = s.2 (sym e)
            go (over w) = omega (arith, under_ge (t / 4) s.0 w, s.1, is_d.3)
            go (below w) = omega (arith, under_ge s.0 (t / 4) w, s.1, is_d.3)

        pub enough_d : (Clash D I P b t m → ⊥) → Enough W O b (λ j. Under (t / 4) j)
        enough_d n = record {
          e_o = λ j hj o u. known j o u hj;
          e_d = λ h x o u v. do_d h x o u v (cmp h (t / 4) x u v);
          e_g = λ h x o u v. (let r : (g : ℕ) × (g / 4 ≡ h) × Under g x = via h x u in do_g h x r.0 o r.1 r.2 (cmp r.0 (t / 4) x r.2 v));
          e_t = λ e. do_t e (dec_lt t (4 * D));
        }
          where
            known : (j : ℕ) → O (bit_of j b) → Under (t / 4) j → j < I → ⊥
            known j o u hj = true≢false (sym (p.g.more.zs j hj (b, (p.de.o_o j b o).0)).0 ∙ dead_d sz c p.g.core.ok (t / 4) j lo_d is_d.2 u)

            sp : 4 * D ≤ t → Spare sz W k b SpD
            sp h = room_desc N P sz W k k⊑W cap b t m c ti above p.g fs mk h n

            do_d : (h x : ℕ) → O (in_desc h b) → Under h x → Under (t / 4) x → Cmp h (t / 4) → (j : ℕ) × (j < I) × Under h j × (W.has j b ≡ true) × (Under (t / 4) j → ⊥) × (1 ≤ h)
            do_d h x o u v (same e) = absurd (true≢false (sym (p.de.o_d h b o).0 ∙ subst (λ (y : ℕ). c.s_d y ≡ false) (sym e) is_d.2))
            do_d h x o u v (below w) = absurd (whole_d sz c p.g.core.ok (t / 4) h lo_d is_d.2 w (p.de.o_d h b o).0)
            do_d h x o u v (over w) = use_d SpD (λ j. Under (t / 4) j) (sp (omega (arith, under_ge h (t / 4) w, p.g.core.ok.lo h (p.de.o_d h b o).0))) (out_d (omega (arith, under_ge h (t / 4) w, p.g.core.ok.lo h (p.de.o_d h b o).0))) h o
                (λ j s. under_trans h s.0 j (sibling h (t / 4) s.0 s.1 w) s.3)

            do_g : (h x g : ℕ) → O (in_grand h b) → g / 4 ≡ h → Under g x → Cmp g (t / 4) → (j : ℕ) × (j < I) × Under h (j / 4) × (W.has j b ≡ true) × (Under (t / 4) j → ⊥) × (1 ≤ h)
            do_g h x g o e u w = at w
              where
                sg : c.s_g h ≡ true
                sg = (p.de.o_g h b o).0

                sd : c.s_d h ≡ true
                sd = p.g.core.ok.gd h sg

                lo : D ≤ 4 * h
                lo = p.g.core.ok.lo h sd

                at : Cmp g (t / 4) → (j : ℕ) × (j < I) × Under h (j / 4) × (W.has j b ≡ true) × (Under (t / 4) j → ⊥) × (1 ≤ h)
                at (same z) = use_g SpD (λ j. Under (t / 4) j) (sp (omega (arith, lo))) (out_d (omega (arith, lo))) h o (λ j s. grand_of h s.0 j (omega (arith, s.1)) s.3)
                at (over w) = use_g SpD (λ j. Under (t / 4) j) (sp (omega (arith, lo, under_ge g (t / 4) w))) (out_d (omega (arith, lo, under_ge g (t / 4) w))) h o
                    (λ j s. grand_of h g j e (under_trans g s.0 j (sibling g (t / 4) s.0 s.1 w) s.3))
                at (below (kid z)) = absurd (true≢false (sym (subst (λ (y : ℕ). c.s_d y ≡ true) (sym e ∙ z) sd) ∙ is_d.2))
                at (below (far w)) = absurd (whole_d sz c p.g.core.ok (t / 4) h lo_d is_d.2 (subst (λ (y : ℕ). Under (t / 4) y) e w) sd)

            do_t : suc b ≡ P → Dec (t < 4 * D) → (j : ℕ) × (j < I) × (W.has j b ≡ true) × (Under (t / 4) j → ⊥)
            do_t e (yes z) = room_root N P sz W k k⊑W cap b t m c ti above p.g fs mk z e n
            do_t e (no z) = use_t SpD (λ j. Under (t / 4) j) (sp (omega arith)) (out_d (omega arith)) e

        pub open_d : Open1 N W b (λ j. Under (t / 4) j)
        open_d = (t, ti, kid refl, p.fr.f_d t ti (omega arith) mk t ti (kid refl))

      -- MG
      module _ (mk : get_or m t 0 ≡ 6) where
        is_g : Grand_at D I c t
        is_g = is_grand_at sz c m p.g.core t ti mk

        abbrev SpG : ℕ → Type 0
        SpG j = j / 4 ≡ t / 16

        out_g : (j : ℕ) → SpG j → Under (t / 16) (j / 4) → ⊥
        out_g j s u = omega (arith, under_ge (t / 16) (j / 4) u, s, is_g.3)

        pub enough_g : (Clash D I P b t m → ⊥) → Enough W O b (λ j. Under (t / 16) (j / 4))
        enough_g n = record {
          e_o = λ j hj o u. known j o u hj;
          e_d = λ h x o u v. do_d h x o u v;
          e_g = λ h x o u v. do_g h x o (cmp h (t / 16) (x / 4) u v);
          e_t = use_t SpG (λ j. Under (t / 16) (j / 4)) sp out_g;
        }
          where
            known : (j : ℕ) → O (bit_of j b) → Under (t / 16) (j / 4) → j < I → ⊥
            known j o u hj = true≢false (sym (p.g.more.zs j hj (b, (p.de.o_o j b o).0)).0 ∙ dead_g sz c p.g.core.ok (t / 16) j is_g.3 is_g.2 u)

            sp : Spare sz W k b SpG
            sp = room_grand N P sz W k k⊑W cap b t m c ti above p.g fs mk n

            do_d : (h x : ℕ) → O (in_desc h b) → Under h x → Under (t / 16) (x / 4) → (j : ℕ) × (j < I) × Under h j × (W.has j b ≡ true) × (Under (t / 16) (j / 4) → ⊥) × (1 ≤ h)
            do_d h x o (kid z) v = absurd (whole_g sz c p.g.core.ok (t / 16) h is_g.3 is_g.2 (subst (λ (y : ℕ). Under (t / 16) y) z v) (p.de.o_d h b o).0)
            do_d h x o (far u) v = at (cmp h (t / 16) (x / 4) u v)
              where
                at : Cmp h (t / 16) → (j : ℕ) × (j < I) × Under h j × (W.has j b ≡ true) × (Under (t / 16) (j / 4) → ⊥) × (1 ≤ h)
                at (same e) = use_d SpG (λ j. Under (t / 16) (j / 4)) sp out_g h o (λ j s. kid (s ∙ sym e))
                at (over w) = use_d SpG (λ j. Under (t / 16) (j / 4)) sp out_g h o (λ j s. far (subst (λ (y : ℕ). Under h y) (sym s) w))
                at (below w) = absurd (whole_g sz c p.g.core.ok (t / 16) h is_g.3 is_g.2 w (p.de.o_d h b o).0)

            do_g : (h x : ℕ) → O (in_grand h b) → Cmp h (t / 16) → (j : ℕ) × (j < I) × Under h (j / 4) × (W.has j b ≡ true) × (Under (t / 16) (j / 4) → ⊥) × (1 ≤ h)
            do_g h x o (same e) = absurd (true≢false (sym (p.de.o_g h b o).0 ∙ subst (λ (y : ℕ). c.s_g y ≡ false) (sym e) is_g.2))
            do_g h x o (over w) = use_g SpG (λ j. Under (t / 16) (j / 4)) sp out_g h o (λ j s. subst (λ (y : ℕ). Under h y) (sym s) w)
            do_g h x o (below w) = absurd (whole_g sz c p.g.core.ok (t / 16) h is_g.3 is_g.2 w (p.g.core.ok.gd h (p.de.o_g h b o).0))

        pub open_g : Open1 N W b (λ j. Under (t / 16) (j / 4))
        open_g = (t, ti, kid {i = t / 4} (omega arith), p.fr.f_g t ti (omega arith) mk t ti (kid {i = t / 4} (omega arith)))
