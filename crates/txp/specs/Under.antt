-- A word of inner contracts, which no promise to a caller uses: what a body's answer becomes under its header.
use Rattle.std.specs.Prelude.{Ok, Err}
use Rattle.decoder.specs.Body.{ReadAnswer}
use Rattle.txp.specs.declared.Header.{Header}
use Rattle.txp.specs.Calls.{DecodeAnswer}

abbrev pub with_header : Header → ReadAnswer → DecodeAnswer
with_header h (Ok r) =
    Ok (record { n = h.n; l = h.l; p = h.p; declared = h.declared; used = r.used; finished = r.finished; error = r.error; ending = r.ending })
with_header h (Err why) = Err why
