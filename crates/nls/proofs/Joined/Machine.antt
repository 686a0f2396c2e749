-- The machine's passes, planes and whole run write what the magnitudes say.
use Prim.Native.Nat.{ℕ, zero, suc, ◌+◌, ◌*◌, ◌-◌, ◌^◌, ◌≤◌, ◌<◌}
use mathlib.Core.Path.{◌≡◌, refl, sym, subst, ◌∙◌}
use mathlib.Core.Bool.{Bool, false}
use mathlib.Core.List.{List, ◌++◌}
use mathlib.Core.Logic.{⊎_elim}
use native.Mathlib.Omega.{arith}
use borrow.Author.Tests.{le-ltb, le-leb, lt-leb}
use lib.Dec.{ltb}
use lib.ListN.{length, get_or, replicate, length-replicate, get_or-replicate, get_or-append}
use Rattle.nls.specs.Scan.{State, Pass, pixels, sets, refining, state_at}
use Rattle.nls.proofs.Arrays.{Arr, Bits, bits_of_arr}
use Rattle.nls.proofs.Counting.Sums.{order}
use Rattle.nls.proofs.Counting.Tree.{Size, D, Q, I}
use Rattle.nls.proofs.Counting.Parts.{split_desc, split_grand, plane, body}
use Rattle.nls.proofs.Counting.Passes.{rest}
use Rattle.nls.proofs.Counting.Steps.{Table, Marks}
use Rattle.nls.proofs.Counting.Steps as C
use Rattle.nls.proofs.Counting.Whole as W
use Rattle.nls.proofs.Counting.Lists.{LStep, go_l, pixel_l, refine_l, set_l, scan_plane_l, start_from_l, start_l, Rep, like_go, like_pixel, like_refine, like_set, rep_start}
use Rattle.nls.proofs.Joined.Leads.{Leads, Runs, runs_none, runs_then, leads_none, leads_then, leads_hushed}
use Rattle.nls.proofs.Joined.Visits.{Low, rank, again_low, low_pixel, low_refine, low_set, falls_pixel, falls_refine, falls_set, visit_pixel, visit_refine, visit_set, pushed_miss}

-- where a pass has got to, and its table
pub record Went (z : Size) (A : Arr) (b : ℕ) (p : Pass) (s : State) (r : (List Bool) × (List ℕ)) : Type 0 where
  pub to : ℕ
  pub past : I z ≤ to
  pub leads : Leads z.deep (bits_of_arr A) (suc b) s r.0 (state_at (suc b) p to r.1)
  pub low : Low r.1

module _ (z : Size) (full : I z ≡ 4 ^ z.deep) (A : Arr) (b : ℕ) where
  abbrev N : ℕ
  N = z.deep

  abbrev K : ℕ
  K = 4 ^ z.deep

  abbrev B : Bits
  B = bits_of_arr A

  module _ (p : Pass) (step : List ℕ → ℕ → LStep) (left : List ℕ → ℕ → ℕ)
      (visit : (l : List ℕ) (i : ℕ) → i < I z → Low l → Leads N B (suc b) (state_at (suc b) p i l) (step l i).0 (state_at (suc b) p (step l i).2 (step l i).1))
      (keeps : (l : List ℕ) (i : ℕ) → Low l → Low (step l i).1)
      (falls : (l : List ℕ) (i : ℕ) → i < I z → Low l → left (step l i).1 (step l i).2 < left l i) where
    pub pass_leads : (f : ℕ) (l : List ℕ) (i : ℕ) → left l i ≤ f → Low l → Went z A b p (state_at (suc b) p i l) (go_l z step f l i)
    unfolding go_l
    pass_leads zero l i h w =
        ⊎_elim (λ q. record { to = i; past = q; leads = leads_none N B (suc b) (state_at (suc b) p i l); low = w })
        (λ q. absurd (omega (arith, h, falls l i q w))) (order (I z) i)
    pass_leads (suc f) l i h w =
        ⊎_elim (λ q. rw (le-leb (I z) i q) (record { to = i; past = q; leads = leads_none N B (suc b) (state_at (suc b) p i l); low = w }))
        (λ q. let r = pass_leads f (step l i).1 (step l i).2 (omega (arith, h, falls l i q w)) (keeps l i w) in
        rw (lt-leb (I z) i q)
        (record {
          to = r.to;
          past = r.past;
          leads = leads_then N B (suc b) (state_at (suc b) p i l) (state_at (suc b) p (step l i).2 (step l i).1) (state_at (suc b) p r.to (go_l z step f (step l i).1 (step l i).2).1)
              (step l i).0 (go_l z step f (step l i).1 (step l i).2).0 (visit l i q w) r.leads;
          low = r.low;
        }))
        (order (I z) i)

  past_end : (i : ℕ) → I z ≤ i → ltb i K ≡ false
  past_end i h = le-ltb i K (omega (arith, h, full))

  pixels_lead : (l : List ℕ) → Low l
      → Leads N B (suc b) (state_at (suc b) pixels 0 l) (go_l z (pixel_l A.mag A.neg b) (I z) l 0).0 (state_at (suc b) sets 0 (go_l z (pixel_l A.mag A.neg b) (I z) l 0).1)
      × Low (go_l z (pixel_l A.mag A.neg b) (I z) l 0).1
  pixels_lead l w =
      let o : (List Bool) × (List ℕ) = go_l z (pixel_l A.mag A.neg b) (I z) l 0 in
      let r : Went z A b pixels (state_at (suc b) pixels 0 l) o =
      pass_leads pixels (pixel_l A.mag A.neg b) (λ l i. I z - i) (λ l i u w. visit_pixel z full A b l i u) (low_pixel z A.mag A.neg b)
      (λ l i u w. falls_pixel z A.mag A.neg b l i u) (I z) l 0 (omega arith) w in
      (leads_hushed N B (suc b) (state_at (suc b) pixels 0 l) (state_at (suc b) pixels r.to o.1) (state_at (suc b) sets 0 o.1) o.0 r.leads (rw (past_end r.to r.past)), r.low)

  sets_lead : (l : List ℕ) → Low l
      → Leads N B (suc b) (state_at (suc b) sets 0 l) (go_l z (set_l z A.mag A.neg b) (z.e + 12 * Q z) l 0).0 (state_at (suc b) refining 0 (go_l z (set_l z A.mag A.neg b) (z.e + 12 * Q z) l 0).1)
      × Low (go_l z (set_l z A.mag A.neg b) (z.e + 12 * Q z) l 0).1
  sets_lead l w =
      let o : (List Bool) × (List ℕ) = go_l z (set_l z A.mag A.neg b) (z.e + 12 * Q z) l 0 in
      let r : Went z A b sets (state_at (suc b) sets 0 l) o =
      pass_leads sets (set_l z A.mag A.neg b) (λ l i. rank z A.mag A.neg b l i) (λ l i u w. visit_set z full A b l i u w) (low_set z A.mag A.neg b)
      (λ l i u w. falls_set z A.mag A.neg b l i u w) (z.e + 12 * Q z) l 0 (omega (arith, again_low (get_or l 0 0) w)) w in
      (leads_hushed N B (suc b) (state_at (suc b) sets 0 l) (state_at (suc b) sets r.to o.1) (state_at (suc b) refining 0 o.1) o.0 r.leads (rw (past_end r.to r.past)), r.low)

  fines_lead : (l : List ℕ) → Low l
      → Leads N B (suc b) (state_at (suc b) refining 0 l) (go_l z (refine_l A.mag b) (I z) l 0).0 (state_at b pixels 0 (go_l z (refine_l A.mag b) (I z) l 0).1)
      × Low (go_l z (refine_l A.mag b) (I z) l 0).1
  fines_lead l w =
      let o : (List Bool) × (List ℕ) = go_l z (refine_l A.mag b) (I z) l 0 in
      let r : Went z A b refining (state_at (suc b) refining 0 l) o =
      pass_leads refining (refine_l A.mag b) (λ l i. I z - i) (λ l i u w. visit_refine z full A b l i u) (low_refine z A.mag A.neg b)
      (λ l i u w. falls_refine z A.mag A.neg b l i u) (I z) l 0 (omega arith) w in
      (leads_hushed N B (suc b) (state_at (suc b) refining 0 l) (state_at (suc b) refining r.to o.1) (state_at b pixels 0 o.1) o.0 r.leads (rw (past_end r.to r.past)), r.low)

  -- one plane of the machine is one plane over a list
  pub plane_leads : (l : List ℕ) → Low l
      → Leads N B (suc b) (state_at (suc b) pixels 0 l) (scan_plane_l z A.mag A.neg b l).0 (state_at b pixels 0 (scan_plane_l z A.mag A.neg b l).1)
      × Low (scan_plane_l z A.mag A.neg b l).1
  unfolding scan_plane_l
  plane_leads l w =
      let o1 : (List Bool) × (List ℕ) = go_l z (pixel_l A.mag A.neg b) (I z) l 0 in
      let o2 : (List Bool) × (List ℕ) = go_l z (set_l z A.mag A.neg b) (z.e + 12 * Q z) o1.1 0 in
      let o3 : (List Bool) × (List ℕ) = go_l z (refine_l A.mag b) (I z) o2.1 0 in
      let r1 = pixels_lead l w in
      let r2 = sets_lead o1.1 r1.1 in
      let r3 = fines_lead o2.1 r2.1 in (
        leads_then N B (suc b) (state_at (suc b) pixels 0 l) (state_at (suc b) sets 0 o1.1) (state_at b pixels 0 o3.1) o1.0 (o2.0 ++ o3.0) r1.0
            (leads_then N B (suc b) (state_at (suc b) sets 0 o1.1) (state_at (suc b) refining 0 o2.1) (state_at b pixels 0 o3.1) o2.0 o3.0 r2.0 r3.0),
        r3.1,
      )

-- What a list of marks holds after plane b: of each part that stands, its mark.
pub record Held (z : Size) (mag : ℕ → ℕ) (b : ℕ) (l : List ℕ) : Type 0 where
  pub long : length l ≡ I z
  pub low : Low l
  pub marks : Marks z (split_desc z mag b) (split_grand z mag b) (λ x. rest z mag b x) (λ y. get_or l y 0)

marks_rep : (z : Size) (sd sg : ℕ → Bool) (cs : ℕ → ℕ) (l : List ℕ) (m : Table) → Rep z l m → Marks z sd sg cs m → Marks z sd sg cs (λ y. get_or l y 0)
marks_rep z sd sg cs l m r k =
    record {
      coef = λ x u t. sym (r.same x u) ∙ k.coef x u t;
      desc = λ n a p q s u. sym (r.same _ u) ∙ k.desc n a p q s u;
      grand = λ n a p q s u. sym (r.same _ u) ∙ k.grand n a p q s u;
    }

plane_list : (z : Size) (mag : ℕ → ℕ) (neg : ℕ → Bool) (b : ℕ) (l : List ℕ) → Held z mag (suc b) l
    → ((scan_plane_l z mag neg b l).0 ≡ plane z mag neg b) × (length (scan_plane_l z mag neg b l).1 ≡ I z)
    × Marks z (split_desc z mag b) (split_grand z mag b) (λ x. rest z mag b x) (λ y. get_or (scan_plane_l z mag neg b l).1 y 0)
unfolding scan_plane_l W.scan_plane
plane_list z mag neg b l h =
    let m : Table = λ y. get_or l y 0 in
    let r : Rep z l m = record { long = h.long; same = λ y u. refl } in
    let one = like_go z (pixel_l mag neg b) (C.pixel_step mag neg b) (like_pixel z mag neg b) (I z) l m 0 r in
    let two = like_go z (set_l z mag neg b) (C.set_step z mag neg b) (like_set z mag neg b) (z.e + 12 * Q z) _ _ 0 one.1 in
    let three = like_go z (refine_l mag b) (C.refine_step mag b) (like_refine z mag neg b) (I z) _ _ 0 two.1 in
    let w = W.plane_scan z mag neg b m h.marks in
    (rw (one.0, two.0, three.0) w.0, three.1.long, marks_rep z (split_desc z mag b) (split_grand z mag b) (λ x. rest z mag b x) _ _ three.1 w.1)

module _ (z : Size) (full : I z ≡ 4 ^ z.deep) (A : Arr) where
  -- one plane of the machine, from the magnitudes
  pub machine_plane : (b : ℕ) (l : List ℕ) → Held z A.mag (suc b) l
      → (m : List ℕ) × Leads z.deep (bits_of_arr A) (suc b) (state_at (suc b) pixels 0 l) (plane z A.mag A.neg b) (state_at b pixels 0 m) × Held z A.mag b m
  machine_plane b l h =
      let r = plane_leads z full A b l h.low in
      let q = plane_list z A.mag A.neg b l h in (
        (scan_plane_l z A.mag A.neg b l).1,
        subst (λ (o : List Bool). Leads z.deep (bits_of_arr A) (suc b) (state_at (suc b) pixels 0 l) o (state_at b pixels 0 (scan_plane_l z A.mag A.neg b l).1)) q.0 r.0,
        record { long = q.1; low = r.1; marks = q.2 },
      )

  -- all planes
  pub machine_body : (n : ℕ) (l : List ℕ) → Held z A.mag n l
      → (m : List ℕ) × Runs z.deep (bits_of_arr A) (state_at n pixels 0 l) (body z A.mag A.neg n) (state_at 0 pixels 0 m) × Held z A.mag 0 m
  unfolding body
  machine_body zero l h = (l, runs_none z.deep (bits_of_arr A) (state_at 0 pixels 0 l), h)
  machine_body (suc b) l h =
      let p = machine_plane b l h in
      let q = machine_body b p.0 p.2 in (
        q.0,
        runs_then z.deep (bits_of_arr A) (state_at (suc b) pixels 0 l) (state_at b pixels 0 p.0) (state_at 0 pixels 0 q.0) (plane z A.mag A.neg b) (body z A.mag A.neg b) p.1.runs q.1,
        q.2,
      )

  -- ---- the start
  pub start_low : (n : ℕ) → get_or (start_from_l z n) 0 0 ≡ 1
  unfolding start_from_l
  start_low zero =
      get_or-append (replicate (D z) 1) (replicate (I z - D z) 0) 0 0 (omega (arith, length-replicate {A = ℕ} (D z) 1))
      ∙ get_or-replicate (D z) 0 1 0 (omega arith)
  start_low (suc n) = pushed_miss z (start_from_l z n) (4 * (z.e + n)) 0 (omega arith) ∙ start_low n

  pub start_held : (P : ℕ) → ((i : ℕ) → i < I z → A.mag i < 2 ^ P) → Held z A.mag P (start_l z)
  unfolding start_l W.start
  start_held P small =
      let r = rep_start z (3 * z.e) in
      record {
        long = r.long;
        low = omega (arith, start_low (3 * z.e));
        marks = marks_rep z (split_desc z A.mag P) (split_grand z A.mag P) (λ x. rest z A.mag P x) _ _ r (W.start_marks z A.mag A.neg P small);
      }
