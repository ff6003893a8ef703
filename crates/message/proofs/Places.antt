-- Where each acknowledgement stands in a message: "lowest bit first", 8 to a byte. By induction on the bytes.
-- Assumes nothing.
use Prim.Native.Nat.{ℕ, zero, suc, ◌+◌, ◌-◌, ◌*◌, ◌/◌, ◌%◌, ◌^◌, ◌<◌}
use mathlib.Core.Path.{◌≡◌, sym, ap, ◌∙◌}
use mathlib.Core.List.{List, ◌++◌, append_assoc}
use mathlib.Core.Bool.{Bool}
use native.Mathlib.Omega.{arith}
use native.Mathlib.Nat.{div-one}
use lib.ListN.{get_or, get_or-append}
use lib.Pow.{field, mod-mod-pow, shr-shr}
use Rattle.message.specs.Message.{bytes_for, bytes_of, job_section, message_of, return_section, two_sections}
use Rattle.message.proofs.Bytes.{length-bytes_of}

-- byte j of a number
byte_at : (n a j : ℕ) → j < n → get_or (bytes_of n a) j 0 ≡ a / 2 ^ (8 * j) % 256
unfolding bytes_of
byte_at zero a j h = absurd (omega arith)
byte_at (suc n) a zero h = ap (λ (x : ℕ). x % 256) (sym (div-one a))
byte_at (suc n) a (suc j) h =
    let place : 8 + 8 * j ≡ 8 * suc j = omega arith in
    byte_at n (a / 256) j (omega arith) ∙ ap (λ (x : ℕ). x % 256) (shr-shr a 8 (8 * j) ∙ ap (λ (x : ℕ). a / 2 ^ x) place)

-- bit r of the lowest byte is bit r
low_bit : (x r : ℕ) → r < 8 → x % 256 / 2 ^ r % 2 ≡ x / 2 ^ r % 2
low_bit x r h =
    let eight : 8 ≡ (8 - r) + r = omega arith in
    let less : 8 - r ≡ (7 - r) + 1 = omega arith in
    ap (λ (e : ℕ). x % 2 ^ e / 2 ^ r % 2) eight
    ∙ ap (λ (y : ℕ). y % 2) (field x (8 - r) r)
    ∙ ap (λ (e : ℕ). x / 2 ^ r % 2 ^ e % 2) less
    ∙ mod-mod-pow (x / 2 ^ r) (7 - r) 1

-- The acknowledgement that document 01 calls bit i + 1 is bit i % 8 of the byte i / 8 after the count.
pub bit-place : (k m a : ℕ) (b : Bool) (j i : ℕ) → i < k → get_or (message_of k m a b j) (suc (i / 8)) 0 / 2 ^ (i % 8) % 2 ≡ a / 2 ^ i % 2
unfolding message_of two_sections
bit-place k m a b j i h =
    let q = i / 8 in
    let inside : q < bytes_for k = omega arith in
    let whole : 8 * q + i % 8 ≡ i = omega arith in
    let byte : get_or ((bytes_of (bytes_for k) a ++ return_section b) ++ job_section m j) q 0 ≡ a / 2 ^ (8 * q) % 256 =
    ap (λ (l : List ℕ). get_or l q 0) (append_assoc (bytes_of (bytes_for k) a) (return_section b) (job_section m j))
    ∙ get_or-append (bytes_of (bytes_for k) a) (return_section b ++ job_section m j) 0 q (omega (arith, length-bytes_of (bytes_for k) a)) ∙ byte_at (bytes_for k) a q inside in
    ap (λ (x : ℕ). x / 2 ^ (i % 8) % 2) byte
    ∙ low_bit (a / 2 ^ (8 * q)) (i % 8) (omega arith)
    ∙ ap (λ (x : ℕ). x % 2) (shr-shr a (8 * q) (i % 8) ∙ ap (λ (e : ℕ). a / 2 ^ e) whole)
