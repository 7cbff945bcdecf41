-- What the calls on integers do, answer by answer. Assumes nothing.
use Prim.Native.Nat.{ℕ, ◌≤◌, ◌<◌}
use mathlib.Core.Path.{◌≡◌, refl, sym, ap}
use mathlib.Core.Bool.{Bool, true, false}
use mathlib.Core.List.{List, [], ◌∷◌}
use lib.ListN.{length, set}
use lib.Dec.{leb}
use borrow.Author.Tests.{le-leb, lt-leb}
use Rattle.common.specs.Choice.{pick}
use Rattle.common.specs.Answer.{Answer, whole, refused, number, Nothing, wrote, Written, Leaves}
use Rattle.common.specs.Buffer.{over}
use Rattle.integer.specs.Integer.{greatest, size_of, enc_of, read_of, put_form, write_of}
use Rattle.integer.proofs.Laws.{length-enc}
use Rattle.rewrite.specs.Rewriting.{Does, putting, refusing}
use Rattle.rewrite.proofs.InfoTold.{two}
use Rattle.exports.specs.Integers.{integer_read, integer_written}

-- ---- reading

module _ (s info : List ℕ) where
  pub read-cut : read_of s ≡ refused 1 → Does (integer_read s info) 1 [] info
  unfolding integer_read
  read-cut e = rw e (record { says = refl; leaves = refl; tells = refl })

  pub read_short : {n used : ℕ} → read_of s ≡ whole n used → length info < 2 → Does (integer_read s info) 7 [] info
  unfolding integer_read putting
  read_short e h = rw (e, lt-leb 2 (length info) h) (record { says = refl; leaves = refl; tells = refl })

  pub read_whole : {n used : ℕ} → read_of s ≡ whole n used → (h : 2 ≤ length info) → Does (integer_read s info) 0 [] (set (set info 0 n) 1 used)
  unfolding integer_read putting
  read_whole {n} {used} e h = rw (e, le-leb 2 (length info) h) (record { says = refl; leaves = refl; tells = two info n used h })

-- ---- writing

-- what `info` then holds
abbrev pub told_in : Answer Nothing → List ℕ → List ℕ
told_in (whole _ written) info = over (written ∷ []) info
told_in (refused n) info = info

-- by two tests: the number is not too great, and there is room
by_tests : (small room : Bool) (bytes : List ℕ) (size : ℕ) (out info : List ℕ) {said : Answer Nothing} {after : List ℕ}
    → Leaves (pick small (pick room (record { says = wrote size; holds = over bytes out }) (record { says = refused 7; holds = out })) (record { says = refused 5; holds = out })) said after
    → Does (pick small (pick room (record { says = 0; out = over bytes out; info = over (size ∷ []) info }) (refusing 7 out info)) (refusing 5 out info)) (number said) after (told_in said info)
unfolding number
by_tests true true bytes size out info l = record { says = ap number l.says; leaves = l.holds; tells = ap (λ a. told_in a info) l.says }
by_tests true false bytes size out info l = record { says = ap number l.says; leaves = l.holds; tells = ap (λ a. told_in a info) l.says }
by_tests false room bytes size out info l = record { says = ap number l.says; leaves = l.holds; tells = ap (λ a. told_in a info) l.says }

-- a writer of integers makes these two
writes : (n : ℕ) (out : List ℕ) → write_of n out ≡ pick (leb n greatest) (pick (leb (length (enc_of n)) (length out)) (record { says = wrote (size_of n); holds = over (enc_of n) out }) (record { says = refused 7; holds = out })) (record { says = refused 5; holds = out })
unfolding write_of put_form enc_of
writes n out =
    ap
    (λ (size : ℕ). pick (leb n greatest) (pick {A = Written} (leb size (length out)) (record { says = wrote (size_of n); holds = over (enc_of n) out }) (record { says = refused 7; holds = out })) (record { says = refused 5; holds = out }))
    (sym (length-enc n))

module _ (n : ℕ) (out info : List ℕ) where
  pub write-great : greatest < n → Does (integer_written n out info) 5 out info
  unfolding integer_written
  write-great h = rw (lt-leb n greatest h) (record { says = refl; leaves = refl; tells = refl })

  pub write-short : n ≤ greatest → length info < 1 → Does (integer_written n out info) 7 out info
  unfolding integer_written putting
  write-short g h = rw (le-leb n greatest g, lt-leb 1 (length info) h) (record { says = refl; leaves = refl; tells = refl })

  pub write-said : {said : Answer Nothing} {after : List ℕ} → 1 ≤ length info → Leaves (write_of n out) said after → Does (integer_written n out info) (number said) after (told_in said info)
  unfolding integer_written putting
  write-said h l =
      rw (le-leb 1 (length info) h)
      (by_tests (leb n greatest) (leb (length (enc_of n)) (length out)) (enc_of n) (size_of n) out info (rw (writes n out) at l))
