-- What writing a field, a message or a header comes to, answer by answer: 5, 6, 3, 7, and then it is done. Assumes nothing.
use Prim.Native.Nat.{ℕ, ◌+◌, ◌≤◌, ◌<◌}
use mathlib.Core.Path.{◌≡◌, refl, sym, ap, ◌∙◌}
use mathlib.Core.Bool.{Bool, true, false}
use mathlib.Core.List.{List, ◌++◌, append_assoc}
use native.Mathlib.Omega.{arith}
use borrow.Author.Tests.{le-leb, lt-leb}
use lib.Dec.{leb, lit≤}
use Rattle.std.specs.Prelude.{Ok, Err}
use lib.ListN.{length, length-append}
use Rattle.common.specs.Answer.{refused, wrote, Written, Leaves}
use Rattle.common.specs.Choice.{both}
use Rattle.common.specs.Buffer.{Put}
use Rattle.common.proofs.Puts.{Room}
use Rattle.integer.specs.Integer.{size_of, greatest, enc_of}
use Rattle.integer.proofs.Laws.{length-enc}
use Rattle.field.specs.declared.Piece.{Piece}
use Rattle.measure.specs.Judging.{Judged, judged}
use Rattle.measure.specs.Measuring.{right_all, sized_all, encode_all, measure_all}
use Rattle.measure.specs.declared.Unfit.TheVariants.{TooLong, Oversize, Forbidden}
use Rattle.measure.proofs.Judges.{Taken, judged-takes, judged-wrong, judged-great, judged-long}
use Rattle.encode.specs.Writing.{written_of, frame, framed_of}

-- ---- every answer, for a header and for a message

-- what is written of bytes that were judged so, by a type of this number
abbrev pub with_kind : ℕ → Bool → Bool → Bool → List ℕ → List ℕ → Written
with_kind kind is_right is_sized is_short bytes before =
    written_of (both (leb kind greatest) is_right) is_sized is_short bytes before

-- all that was checked, so that the bytes can be put
pub record Ready (kind : ℕ) (is_right is_sized is_short : Bool) (bytes before : List ℕ) : Type 0 where
  pub small : kind ≤ greatest
  pub is_right_lem : is_right ≡ true
  pub is-sized : is_sized ≡ true
  pub is-short : is_short ≡ true
  pub fits : length bytes ≤ length before

module _ {kind : ℕ} (is_right is_sized is_short : Bool) (bytes before : List ℕ) where
  -- 5: the number of the type can't be written
  pub kind-great : greatest < kind → Leaves (with_kind kind is_right is_sized is_short bytes before) (refused 5) before
  unfolding written_of
  kind-great h = rw (lt-leb kind greatest h) (record { says = refl; holds = refl })

  module _ (small : kind ≤ greatest) where
    module _ {r : Judged} (n room : ℕ) (said : r ≡ judged is_right is_sized n room) where
      -- 5: a field can't
      pub fields-forbidden : r ≡ Err Forbidden → Leaves (with_kind kind is_right is_sized is_short bytes before) (refused 5) before
      unfolding written_of
      fields-forbidden e =
          rw (le-leb kind greatest small, judged-wrong is_right is_sized n room (sym said ∙ e)) (record { says = refl; holds = refl })

      -- 6: a field is over a size
      pub fields-oversize : r ≡ Err Oversize → Leaves (with_kind kind is_right is_sized is_short bytes before) (refused 6) before
      unfolding written_of
      fields-oversize e =
          let j = judged-great is_right is_sized n room (sym said ∙ e) in
          rw (le-leb kind greatest small, j.0, j.1) (record { says = refl; holds = refl })

    module _ (is_right_lem : is_right ≡ true) (is-sized : is_sized ≡ true) where
      -- 3: the body is too long
      body-long : is_short ≡ false → Leaves (with_kind kind is_right is_sized is_short bytes before) (refused 3) before
      unfolding written_of
      body-long e = rw (le-leb kind greatest small, is_right_lem, is-sized, e) (record { says = refl; holds = refl })

      -- 7: the output is too short
      output-short : is_short ≡ true → length before < length bytes → Leaves (with_kind kind is_right is_sized is_short bytes before) (refused 7) before
      unfolding written_of
      output-short e h =
          rw (le-leb kind greatest small, is_right_lem, is-sized, e, lt-leb (length bytes) (length before) h) (record { says = refl; holds = refl })

-- it is done
pub done : {kind : ℕ} {is_right is_sized is_short : Bool} {bytes before after : List ℕ} {used : ℕ} → Ready kind is_right is_sized is_short bytes before → Put bytes before used after → Leaves (with_kind kind is_right is_sized is_short bytes before) (wrote used) after
unfolding written_of
done {kind} {bytes = bytes} {before = before} r q =
    rw (le-leb kind greatest r.small, r.is_right_lem, r.is-sized, r.is-short, le-leb (length bytes) (length before) r.fits)
    (record { says = ap wrote q.count; holds = q.holds })

-- ---- what the judgement of the fields tells

module _ (s : List ℕ) (ps : List Piece) (room : ℕ) {r : Judged} (said : r ≡ measure_all s ps room) where
  -- they take that many bytes,
  pub taken : {n : ℕ} → r ≡ Ok n → Taken (right_all s ps) (sized_all s ps) (length (encode_all s ps)) room n
  unfolding measure_all
  taken e = judged-takes (right_all s ps) (sized_all s ps) (length (encode_all s ps)) room (sym said ∙ e)

  -- or they are too long
  too_long : r ≡ Err TooLong → ((right_all s ps ≡ true) × (sized_all s ps ≡ true)) × (room < length (encode_all s ps))
  unfolding measure_all
  too_long e = judged-long (right_all s ps) (sized_all s ps) (length (encode_all s ps)) room (sym said ∙ e)

-- ---- a field or a header: its bytes alone

module _ (is_right is_sized : Bool) (bytes before : List ℕ) {r : Judged} (said : r ≡ judged is_right is_sized (length bytes) (length before)) where
  -- 5: one can't be written,
  pub bare-forbidden : r ≡ Err Forbidden → Leaves (written_of is_right is_sized true bytes before) (refused 5) before
  bare-forbidden = fields-forbidden {kind = 0} _ _ _ _ _ (lit≤ tt) _ _ said

  -- 6: or is over a size,
  pub bare-oversize : r ≡ Err Oversize → Leaves (written_of is_right is_sized true bytes before) (refused 6) before
  bare-oversize = fields-oversize {kind = 0} _ _ _ _ _ (lit≤ tt) _ _ said

  -- 7: or they are longer than the output
  pub bare-over : r ≡ Err TooLong → Leaves (written_of is_right is_sized true bytes before) (refused 7) before
  bare-over e =
      let t = judged-long is_right is_sized (length bytes) (length before) (sym said ∙ e) in
      output-short {kind = 0} _ _ _ _ _ (lit≤ tt) t.0.0 t.0.1 refl t.1

  module _ {n : ℕ} (e : r ≡ Ok n) where
    -- all was checked,
    pub bare-taken : Taken is_right is_sized (length bytes) (length before) n
    bare-taken = judged-takes is_right is_sized (length bytes) (length before) (sym said ∙ e)

    -- and they are put
    pub bare-done : {used : ℕ} {after : List ℕ} → Put bytes before used after → Leaves (written_of is_right is_sized true bytes before) (wrote used) after
    bare-done q =
        done {kind = 0} (record { small = lit≤ tt; is_right_lem = bare-taken.is_right_lem; is-sized = bare-taken.is-sized; is-short = refl; fits = bare-taken.fits }) q

-- ---- a message: its type, a length, and its body

-- their bytes
frame-length : (kind : ℕ) (body : List ℕ) → length (frame kind body) ≡ size_of kind + size_of (length body) + length body
unfolding frame
frame-length kind body =
    omega (arith, length-append (enc_of kind) (enc_of (length body) ++ body), length-append (enc_of (length body)) body, length-enc kind, length-enc (length body))

-- which were checked, and the body takes n bytes
pub record Message (longest : ℕ) (s : List ℕ) (kind : ℕ) (ps : List Piece) (before : List ℕ) (n : ℕ) : Type 0 where
  pub ready : Ready kind (right_all s ps) (sized_all s ps) (leb (length (encode_all s ps)) longest) (frame kind (encode_all s ps)) before
  pub counts : n ≡ length (encode_all s ps)
  pub little : n ≤ greatest

module _ {longest : ℕ} {s : List ℕ} {kind : ℕ} {ps : List Piece} {before : List ℕ} {n : ℕ} (m : Message longest s kind ps before n) where
  -- there is room for the type and the length, and then for the body
  pub message-room : Room (enc_of kind ++ enc_of n) (encode_all s ps) (frame kind (encode_all s ps)) before
  unfolding frame
  message-room =
      record { joins = append_assoc (enc_of kind) (enc_of n) (encode_all s ps) ∙ rw m.counts; fits = m.ready.fits }

module _ (longest : ℕ) (s : List ℕ) {kind : ℕ} (ps : List Piece) (before : List ℕ) (small : kind ≤ greatest) {r : Judged} (said : r ≡ measure_all s ps longest) where
  -- 3: the body is longer than it may be
  pub message-long : r ≡ Err TooLong → Leaves (framed_of longest s kind ps before) (refused 3) before
  unfolding framed_of
  message-long e =
      let t = too_long s ps longest said e in
      body-long _ _ _ _ _ small t.0.0 t.0.1 (lt-leb (length (encode_all s ps)) longest t.1)

  module _ {n a b : ℕ} (e : r ≡ Ok n) (h : a ≡ size_of kind) (k : b ≡ size_of n) where
    -- its bytes are counted
    counted : a + b + n ≡ length (frame kind (encode_all s ps))
    counted =
        let t = taken s ps longest said e in
        rw (h, k, t.counts) (sym (frame-length kind (encode_all s ps)))

    -- 7: the output is shorter
    pub message-short : length before < a + b + n → Leaves (framed_of longest s kind ps before) (refused 7) before
    unfolding framed_of
    message-short l =
        let t = taken s ps longest said e in
        output-short _ _ _ _ _ small t.is_right_lem t.is-sized (le-leb (length (encode_all s ps)) longest t.fits) (omega (arith, counted))

    -- all was checked
    pub message : longest ≤ greatest → a + b + n ≤ length before → Message longest s kind ps before n
    message g l =
        let t = taken s ps longest said e in
        record { ready = record { small = small; is_right_lem = t.is_right_lem; is-sized = t.is-sized; is-short = le-leb (length (encode_all s ps)) longest t.fits; fits = omega (arith, counted) }; counts = t.counts; little = omega (arith, t.counts, t.fits) }
