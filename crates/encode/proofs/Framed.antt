-- A message that was read, Type, Length and body, was read in no fewer bytes than its shortest form, and in as many is that form.
-- Assumes nothing.
use Prim.Native.Nat.{ℕ, ◌+◌, ◌≤◌}
use mathlib.Core.Path.{◌≡◌}
use mathlib.Core.List.{List, ◌++◌}
use native.Mathlib.Omega.{arith}
use lib.ListN.{length, length-append}
use Rattle.integer.specs.Integer.{enc_of}
use Rattle.integer.proofs.Laws.{no_longer}
use Rattle.field.specs.Outcome.{whole}
use Rattle.field.specs.Entries.{number_at}
use Rattle.field.proofs.Found.{number-at}
use Rattle.field.proofs.Least.{Least, least-then, least-number}
use Rattle.encode.specs.Writing.{frame}

-- The Length that was read counts the bytes that the body was read from; in the shortest form it counts fewer, or as many.
pub least-frame : (s : List ℕ) {type next size at used : ℕ} {body : List ℕ} → number_at s 0 ≡ whole type next → number_at s next ≡ whole size at → Least s at body used → used ≡ at + size → Least s 0 (frame type body) used
unfolding frame
least-frame s {type} {next} {size} {at} {used} {body} e f b ends =
    let a = least-number s 0 e in
    let l = least-number s next f in
    let less : length body ≤ size = omega (arith, b.fits) in
    let head = no_longer (length body) size less (number-at s next f).small in
    let long : length (enc_of type ++ (enc_of (length body) ++ body)) ≡ length (enc_of type) + (length (enc_of (length body)) + length body) =
    rw (length-append, length-append) in
    record {
      fits = omega (arith, a.fits, b.fits, l.fits);
      is = λ o h.
          let same : size ≡ length body = omega (arith, a.fits, b.fits, l.fits) in
          (least-then a (least-then (rw same at l) b)).is o h;
    }
