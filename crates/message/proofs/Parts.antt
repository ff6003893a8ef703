-- The parts of a lent slice that the sections fill, put together.
-- Assumes nothing.
use Prim.Native.Nat.{ℕ, ◌+◌, ◌-◌, ◌≤◌}
use mathlib.Core.Path.{◌≡◌, sym, ap, ◌∙◌}
use mathlib.Core.List.{List, ◌++◌, append_assoc}
use mathlib.Core.Bool.{Bool, cond}
use native.Mathlib.Omega.{arith}
use native.Mathlib.Nat.{add-sub_cancel_left}
use lib.ListN.{length, take, drop, length-append, length-drop}
use lib.Seq.{length-take-le, drop-drop, take_at, drop_at}
use Rattle.message.specs.Message.{section_of, acknowledgement_section, return_section, job_section, two_sections, message_of, bytes_for, length_one, length_two, length_of}
use Rattle.message.proofs.Bytes.{length-bytes_of}

pub length-section : (count size bits : ℕ) → length (section_of count size bits) ≡ 1 + size
length-section count size bits = omega (arith, length-bytes_of size bits)

-- section one is put to the start
pub first-put : (k a n : ℕ) (out part : List ℕ) → n ≡ length_one k → length_one k ≤ length out → part ≡ section_of k (length (take n out) - 1) a
    → part ++ drop n out ≡ acknowledgement_section k a ++ drop (length_one k) out
first-put k a n out part e room is =
    let size : length (take n out) - 1 ≡ bytes_for k = omega (arith, length-take-le n out (omega arith)) in
    ap (λ (l : List ℕ). l ++ drop n out) (is ∙ ap (λ (m : ℕ). section_of k m a) size)
    ∙ ap (λ (m : ℕ). acknowledgement_section k a ++ drop m out) e

-- a section of one byte after its count is put from place n on
pub byte_put : (count bits n : ℕ) (out part : List ℕ) → n + 2 ≤ length out → part ≡ section_of count (length (take (n + 2 - n) (drop n out)) - 1) bits
    → take n out ++ (part ++ drop (n + 2 - n) (drop n out)) ≡ take n out ++ (section_of count 1 bits ++ drop (n + 2) out)
byte_put count bits n out part room is =
    let two : n + 2 - n ≡ 2 = add-sub_cancel_left n 2 in
    let size : length (take (n + 2 - n) (drop n out)) - 1 ≡ 1 =
    rw two (omega (arith, length-take-le 2 (drop n out) (omega (arith, length-drop n out)))) in
    let whole : part ≡ section_of count 1 bits = is ∙ ap (λ (m : ℕ). section_of count m bits) size in
    let rest : drop (n + 2 - n) (drop n out) ≡ drop (n + 2) out = rw two (drop-drop 2 n out) in
    ap (λ (l : List ℕ). take n out ++ (l ++ drop (n + 2 - n) (drop n out))) whole
    ∙ ap (λ (l : List ℕ). take n out ++ (section_of count 1 bits ++ l)) rest

-- what is put after the n bytes in front stands after them
put-after : (n : ℕ) (front more out : List ℕ) → length front ≡ n
    → take n (front ++ drop n out) ++ (more ++ drop (n + 2) (front ++ drop n out)) ≡ (front ++ more) ++ drop (n + 2) out
put-after n front more out long =
    let before : take n (front ++ drop n out) ≡ front = take_at front (drop n out) n long in
    let back : drop (n + 2) (front ++ drop n out) ≡ drop (n + 2) out =
    sym (drop-drop 2 n (front ++ drop n out)) ∙ ap (drop 2) (drop_at front (drop n out) n long) ∙ drop-drop 2 n out in
    ap (λ (l : List ℕ). l ++ (more ++ drop (n + 2) (front ++ drop n out))) before
    ∙ ap (λ (l : List ℕ). front ++ (more ++ l)) back
    ∙ sym (append_assoc front more (drop (n + 2) out))

pub length-two : (k a : ℕ) (b : Bool) → length (two_sections k a b) ≡ length_two k
unfolding two_sections
length-two k a b =
    omega (arith, length-append (acknowledgement_section k a) (return_section b), length-section k (bytes_for k) a, length-section 1 1 (cond b 1 0))

-- two sections are put: `one`, `two` are the lent bytes after each of them
pub two-put : (k a : ℕ) (b : Bool) (out one two : List ℕ)
    → one ≡ acknowledgement_section k a ++ drop (length_one k) out
    → two ≡ take (length_one k) one ++ (return_section b ++ drop (length_two k) one)
    → two ≡ two_sections k a b ++ drop (length_two k) out
unfolding two_sections
two-put k a b out one two e₁ e₂ =
    e₂
    ∙ ap (λ (l : List ℕ). take (length_one k) l ++ (return_section b ++ drop (length_two k) l)) e₁
    ∙ put-after (length_one k) (acknowledgement_section k a) (return_section b) out (length-section k (bytes_for k) a)

-- with the third they are the message
pub all-put : (k m a : ℕ) (b : Bool) (j : ℕ) (out two three : List ℕ)
    → two ≡ two_sections k a b ++ drop (length_two k) out
    → three ≡ take (length_two k) two ++ (job_section m j ++ drop (length_of k) two)
    → three ≡ message_of k m a b j ++ drop (length_of k) out
unfolding message_of
all-put k m a b j out two three e₂ e₃ =
    e₃
    ∙ ap (λ (l : List ℕ). take (length_two k) l ++ (job_section m j ++ drop (length_of k) l)) e₂
    ∙ put-after (length_two k) (two_sections k a b) (job_section m j) out (length-two k a b)
