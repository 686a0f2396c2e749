-- Words of inner contracts, which no promise to a caller uses: the code's struct of the numbers of an answer.
use Rattle.std.specs.Prelude.{ℕ, ◌<◌, ◌^◌, List, [], ◌∷◌, Ok, Err}
use Rattle.txp.specs.Calls.{EncodeAnswer}
use Rattle.ctxp.specs.declared.answers.Answer.{Answer}

-- the struct of a call that is done, with nothing to say
abbrev pub blank_answer : Answer
blank_answer =
    record { refusal = 0; place = 0; n = 0; l = 0; planes = 0; declared = 0; bits = 0; bytes = 0; finished = 0; error = 0; parts = 0; splits = 0; found = 0; negative = 0; value = 0; ending = 0 }

-- the struct entry after entry
abbrev pub entries : Answer → List ℕ
entries a =
    a.refusal ∷ a.place ∷ a.n ∷ a.l ∷ a.planes ∷ a.declared ∷ a.bits ∷ a.bytes ∷ a.finished ∷ a.error ∷ a.parts ∷ a.splits ∷ a.found ∷ a.negative ∷ a.value ∷ a.ending ∷ []

-- the file's bytes fit the answer's 32 bits
abbrev pub Short : EncodeAnswer → Type 0
Short (Ok w) = w.bytes < 2 ^ 32
Short (Err why) = Unit {0}
