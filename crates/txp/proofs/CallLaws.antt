-- What the checks of a call say where they are passed, and what the call then leaves.
use mathlib.Core.Path.{◌≡◌, refl, sym, ap, subst, ◌∙◌}
use mathlib.Core.Bool.{Bool, true}
use mathlib.Core.List.{List, [], ◌++◌, append_assoc}
use Prim.Native.Nat.{ℕ, ◌+◌, ◌-◌, ◌≤◌, ◌<◌}
use native.Mathlib.Omega.{arith}
use lib.IntN.{ℤ}
use lib.ListN.{length, take, drop, length-append}
use lib.Seq.{drop_at, length-take-le}
use Rattle.std.specs.Prelude.{Ok, Err}
use Rattle.refusals.specs.Checks.{first_failing, Outcome}
use Rattle.refusals.specs.declared.Refusal.{Refusal}
use Rattle.refusals.proofs.Laws.{AllHold, passed, all_pass}
use Rattle.sizes.specs.Sizes.{all_of, side_fits, most_planes, Sized}
use Rattle.sizes.proofs.Laws.{side_most, sized}
use Rattle.bits.specs.Bits.{bytes_for, packed}
use Rattle.coef.specs.Coef.{planes_of}
use Rattle.coef.proofs.Laws.{planes_of_lem, planes_most, first_all}
use Rattle.nls.specs.Judging.{Verdict, taken, contradiction, beyond}
use Rattle.room.specs.Room as room
use Rattle.room.specs.Room.{room_in}
use Rattle.room.specs.Ready.{EncodeReady}
use Rattle.room.proofs.Laws.{encode_ready, DecodeReady, decode_ready}
use Rattle.encoder.specs.Body as body
use Rattle.encoder.specs.Body.{sent_bits, output_after, Loan, loan, lent_to, Writes, WriteAnswer}
use Rattle.encoder.specs.declared.body.Written.{Written}
use Rattle.decoder.specs.Body as cut_body
use Rattle.decoder.specs.Body.{Tables, ReadAnswer}
use Rattle.decoder.specs.Ending.{ending}
use Rattle.decoder.specs.declared.ending.Ending.{Ending}
use Rattle.txp.specs.declared.Header.{Header}
use Rattle.txp.specs.Header.{header_size, header_bytes, header_of, body_of}
use Rattle.txp.specs.File.{header_for, file_of, usable_bits, ending_of}
use Rattle.txp.specs.Calls.{encode_answer, encode_outcome, Encodes, header_checks, decode_checks, decode_answer, DecodesTo}
use Rattle.txp.specs.Under.{with_header}
use Rattle.txp.proofs.Headers.{header_length, letters_room}

-- ---- encoding

module _ (N L : ℕ) (A : List ℤ) (budget : ℕ) (held mid : Loan) (r : WriteAnswer) (writes : Writes N L A header_size budget held r mid) where
  -- a body that was refused is a file that is refused, and what was lent is as it was
  module _ (why : Refusal) (refused : r ≡ Err why) where
    fails : (o : Outcome) → Err why ≡ body.write_answer N L A budget o → o ≡ Err why
    fails (Ok tt) e = absurd (let z : ◌≡◌ {A = ℕ} 0 1 = cc in omega arith)
    fails (Err x) e = cc

    pub refused_body : Encodes N L A budget held (Err why) mid
    refused_body =
        let o : encode_outcome N L A budget held ≡ Err why = fails (encode_outcome N L A budget held) (sym refused ∙ writes.answered) in
        record {
          answered = ap (encode_answer N L A budget) (sym o);
          filled =
              writes.filled
              ∙ ap (λ (x : Outcome). lent_to x N L A budget header_size (packed (sent_bits N L A budget)) held) o
              ∙ ap (λ (x : Outcome). lent_to x N L A budget 0 (file_of N L A budget) held) (sym o);
        }

  module _ (w : Written) (done : r ≡ Ok w) where
    -- the checks hold, and the planes and the bits are the array's
    says : (o : Outcome) → Ok w ≡ body.write_answer N L A budget o → (o ≡ Ok tt) × (w ≡ record { planes = planes_of A; bits = length (sent_bits N L A budget) })
    says (Ok tt) e = (refl, cc)
    says (Err why) e = absurd (let z : ◌≡◌ {A = ℕ} 0 1 = cc in omega arith)

    said : (encode_outcome N L A budget held ≡ Ok tt) × (w ≡ record { planes = planes_of A; bits = length (sent_bits N L A budget) })
    said = says (encode_outcome N L A budget held) (sym done ∙ writes.answered)

    so : EncodeReady N L A (length held.descs) (length held.grands) (length held.out - header_size) budget × (all_of N ≤ length held.marks) × (header_size ≤ length held.out)
    so = encode_ready N L A (length held.descs) (length held.grands) (length held.marks) (length held.out) header_size budget (sym said.0)

    behind : mid.out ≡ take header_size held.out ++ (packed (sent_bits N L A budget) ++ drop (header_size + length (packed (sent_bits N L A budget))) held.out)
    behind = ap (λ (x : Loan). x.out) writes.filled ∙ ap (λ (x : Outcome). output_after x header_size (packed (sent_bits N L A budget)) held.out) said.0

    first : length (take header_size held.out) ≡ header_size
    first = length-take-le header_size held.out so.2

    -- what putting the header asks
    pub header_fits : (header_size ≤ length mid.out) × (N < 256) × (L < 256) × (w.planes < 256)
    header_fits =
        let few : planes_of A ≤ most_planes = planes_most (planes_of_lem A) (first_all A so.0.limited) in
        let z = sized N L so.0.levels in (
          omega (arith, ap {B = ℕ} length behind, length-append (take header_size held.out) (packed (sent_bits N L A budget) ++ drop (header_size + length (packed (sent_bits N L A budget))) held.out), first),
          omega (arith, side_most N so.0.side),
          omega (arith, side_most N so.0.side, z.most),
          omega (arith, few, ap {B = ℕ} (λ (x : Written). x.planes) said.1),
        )

    -- behind the header stands the body, so the output begins with the file
    pub file_written : (out : List ℕ) → out ≡ header_bytes (record { n = N; l = L; p = w.planes; declared = w.bits }) ++ drop header_size mid.out
        → Encodes N L A budget held (Ok (record { planes = w.planes; bits = w.bits; bytes = header_size + bytes_for w.bits })) (loan mid.descs mid.grands mid.marks out)
    file_written out e =
        let own : List ℕ = packed (sent_bits N L A budget) in
        let file : List ℕ = file_of N L A budget in
        let h : header_bytes (record { n = N; l = L; p = w.planes; declared = w.bits }) ≡ header_bytes (header_for N L A budget) =
        ap (λ (x : Written). header_bytes (record { n = N; l = L; p = x.planes; declared = x.bits })) said.1 in
        let d : drop header_size mid.out ≡ own ++ drop (header_size + length own) held.out =
        ap (λ (s : List ℕ). drop header_size s) behind ∙ drop_at (take header_size held.out) (own ++ drop (header_size + length own) held.out) header_size first in
        let n : header_size + length own ≡ 0 + length file =
        omega (arith, length-append (header_bytes (header_for N L A budget)) own, header_length (header_for N L A budget) []) in
        let put : out ≡ output_after (Ok tt) 0 file held.out = e ∙ rw (h, d, n) (sym (append_assoc (header_bytes (header_for N L A budget)) own (drop (0 + length file) held.out))) in
        let left : out ≡ output_after (encode_outcome N L A budget held) 0 file held.out = put ∙ ap (λ (x : Outcome). output_after x 0 file held.out) (sym said.0) in
        record { answered = rw (said.0, said.1); filled = λ i. loan (writes.filled i).descs (writes.filled i).grands (writes.filled i).marks (left i) }

-- ---- decoding

-- the answer on a body under its header, by the verdict
with_verdict : (word : ℕ → ℕ → Ending) (h : Header) (u : List Bool) (v : Verdict) → with_header h (cut_body.read_answer word h.n h.l h.p u v) ≡ decode_answer word h u v
with_verdict word h u taken = refl
with_verdict word h u (contradiction bit) = refl
with_verdict word h u (beyond bit) = refl

-- where the checks of the header hold, there is a header, and its side is in range
pub header_passed : (file : List ℕ) → first_failing (header_checks file) ≡ Ok tt → (header_size ≤ length file) × (side_fits (header_of file).n ≡ true)
unfolding AllHold
header_passed file e = let p = passed (header_checks file) e in (letters_room file p.0, p.1.1.0)

module _ (file : List ℕ) (values precisions marks : ℕ) (r : Outcome) (is : r ≡ first_failing (decode_checks file values precisions marks)) where
  pub refused_file : (rule : ℕ → ℕ → ℕ) (why : Refusal) (held : Tables) → r ≡ Err why
      → DecodesTo (first_failing (decode_checks file values precisions marks)) rule (ending_of file) (header_of file) (usable_bits file) held (Err why) held
  refused_file rule why held e = rw (sym is ∙ e) (refl, refl)

  module _ (done : r ≡ Ok tt) where
    -- a header stands before the body
    pub header_stands : header_size ≤ length file
    unfolding AllHold
    header_stands = letters_room file (passed (decode_checks file values precisions marks) (sym is ∙ done)).0

    -- the checks of the body hold too
    body_passes : first_failing (room.read_checks (header_of file).n (header_of file).l (header_of file).p values precisions marks) ≡ Ok tt
    unfolding AllHold room_in
    body_passes =
        let all = passed (decode_checks file values precisions marks) (sym is ∙ done) in
        all_pass (room.read_checks (header_of file).n (header_of file).l (header_of file).p values precisions marks)
        (all.1.1.0, (all.1.1.1.0, (all.1.1.1.1.0, (all.1.1.1.1.1.1.1.0, tt))))

    pub file_decoded : (rule : ℕ → ℕ → ℕ) (h : Header) (part : List ℕ) (held left : Tables) (b : ReadAnswer) → h ≡ header_of file → part ≡ body_of file
        → cut_body.ReadsTo (first_failing (room.read_checks h.n h.l h.p values precisions marks)) rule (ending h.declared part) h.n h.l h.p (room.body_bits h.declared part) held b left
        → DecodesTo (first_failing (decode_checks file values precisions marks)) rule (ending_of file) (header_of file) (usable_bits file) held (with_header h b) left
    file_decoded rule h part held left b eh ep d =
        let moved =
        subst (λ (x : Header). cut_body.ReadsTo (first_failing (room.read_checks x.n x.l x.p values precisions marks)) rule (ending x.declared (body_of file)) x.n x.l x.p (room.body_bits x.declared (body_of file)) held b left) eh
        (subst (λ (s : List ℕ). cut_body.ReadsTo (first_failing (room.read_checks h.n h.l h.p values precisions marks)) rule (ending h.declared s) h.n h.l h.p (room.body_bits h.declared s) held b left) ep d) in
        let got : cut_body.BodyRead rule (ending_of file) (header_of file).n (header_of file).l (header_of file).p (usable_bits file) held b left =
        subst (λ (o : Outcome). cut_body.ReadsTo o rule (ending_of file) (header_of file).n (header_of file).l (header_of file).p (usable_bits file) held b left) body_passes moved in
        let answered : with_header h b ≡ decode_answer (ending_of file) (header_of file) (usable_bits file) got.verdict =
        ap (λ (x : Header). with_header x b) eh ∙ ap (λ (x : ReadAnswer). with_header (header_of file) x) got.answered ∙ with_verdict (ending_of file) (header_of file) (usable_bits file) got.verdict in
        subst (λ (o : Outcome). DecodesTo o rule (ending_of file) (header_of file) (usable_bits file) held (with_header h b) left) (sym done ∙ is)
        (record { verdict = got.verdict; judged = got.judged; answered = answered; filled = got.filled })

-- where the checks of decoding hold, sizes and planes are in range, and each table has room
pub decode_passed : (file : List ℕ) (values precisions marks : ℕ) → first_failing (decode_checks file values precisions marks) ≡ Ok tt
    → DecodeReady (header_of file).n (header_of file).l (header_of file).p values precisions marks
decode_passed file values precisions marks e =
    decode_ready (header_of file).n (header_of file).l (header_of file).p values precisions marks (sym (body_passes file values precisions marks (Ok tt) (sym e) refl))

pub in_range : (file : List ℕ) (values precisions marks : ℕ) → first_failing (decode_checks file values precisions marks) ≡ Ok tt → Sized (header_of file).n (header_of file).l
in_range file values precisions marks e = sized (header_of file).n (header_of file).l (decode_passed file values precisions marks e).levels
