-- Document 02, request i: "A converter brings a message to the three-section form with no jobs, and takes one with no jobs back."
use Rattle.std.specs.Prelude.{ℕ, ◌-◌, List, Bool, cond, length, get_or, eqb, ltb, Err, Ok}
use Rattle.message.specs.cable.Cable.{job_count}
use Rattle.message.specs.Answers.{Reading}
use Rattle.message.specs.declared.Received.{Received}
use Rattle.message.specs.Message.{Outcome, if_read, if_written, in_range, length_of, read_of, write_of}
use Rattle.message.specs.TwoSections.{read_two_of, write_two_of}

-- What comes of a reading: what is heard is written on; where nothing is, the refusal stays and every lent byte with it.
abbrev pub written_on : Reading → List ℕ → (ℕ → Bool → Outcome) → Outcome
written_on (Ok h) out on = on h.acknowledgements h.return_bit
written_on (Err cause) out on = (Err cause, out)

-- "brings a message to the three-section form with no jobs": the reader's causes 2, 6, 7, 8, then the writer's, of which 9 is left.
unfoldable pub to_three_of : ℕ → List ℕ → List ℕ → Outcome
to_three_of k bytes out = written_on (read_two_of k bytes).reading out (λ a b. write_of k 0 a b 0 out)

-- The job count that stands in bytes of three sections: the last is a count and one byte, so it is the last byte but one. (0 where there is none.)
unfoldable pub job_count_in : List ℕ → ℕ
job_count_in bytes = cond (ltb (length bytes) 2) 0 (get_or bytes (length bytes - 2) 0)

-- What a message says for whatever number of jobs: 2, 6, 7 ("A job count above 8 there gives 7"), 7, 8 ("which judges spare bits by that count").
unfoldable pub read_any_of : ℕ → List ℕ → Received
read_any_of k bytes =
    if_read (in_range k) 2
    (if_read (eqb (length bytes) (length_of k)) 6
    (if_read (job_count (job_count_in bytes)) 7
    (read_of k (job_count_in bytes) bytes)))

-- "takes one with no jobs back": the reader's causes, then "Message with a job count of 1 to 8 to be taken back: 15, after 8", then 9.
unfoldable pub to_two_of : ℕ → List ℕ → List ℕ → Outcome
to_two_of k bytes out =
    written_on (read_any_of k bytes).reading out (λ a b. if_written (eqb (job_count_in bytes) 0) 15 out (write_two_of k a b out))
