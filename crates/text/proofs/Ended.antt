-- An item and what stands after it, as they are put. Assumes nothing.
use Prim.Native.Nat.{ℕ, suc, ◌+◌, ◌≤◌, ◌<◌}
use mathlib.Core.Path.{◌≡◌, refl, sym, ◌∙◌}
use mathlib.Core.Bool.{Bool}
use mathlib.Core.List.{List, [], ◌∷◌, ◌++◌}
use native.Mathlib.Numerals.{add-one}
use native.Mathlib.Omega.{arith}
use lib.ListN.{length, get_or, set, drop, length-append}
use lib.Seq.{drop-cons, set_at, append_snoc}
use Rattle.common.specs.Choice.{pick}
use Rattle.common.specs.Buffer.{Put}
use Rattle.common.proofs.Puts.{lent, given, put-length, Room, first_fits, ends-within, second_fits, both-fit, put_both, byte_put}
use Rattle.types.specs.Letters.{letters}
use Rattle.types.specs.Table.{name_of}
use Rattle.text.specs.Decimals.{decimal_of}
use Rattle.text.specs.Words.{word_of}
use Rattle.text.specs.Lines.{item_of, ended_of}
use Rattle.text.specs.declared.Word.{Word as Wording}
use Rattle.text.specs.declared.Item.{Item}
use Rattle.text.specs.declared.Item.TheVariants.{Number, Word, Rule, Name}

-- ---- an item, by what it is

module _ {item : Item} where
  pub number_is : {n : ℕ} → item ≡ Number n → item_of item ≡ decimal_of n
  unfolding item_of
  number_is e = rw e

  pub word-is : {word : Wording} → item ≡ Word word → item_of item ≡ word_of word
  unfolding item_of
  word-is e = rw e

  pub name-is : {n : ℕ} → item ≡ Name n → item_of item ≡ name_of n
  unfolding item_of
  name-is e = rw e

  -- a rule is a letter, and then its number: so it has one byte more,
  pub rule-size : {n k : ℕ} → item ≡ Rule n → k ≡ length (decimal_of n) → 1 + k ≡ length (item_of item)
  unfolding item_of letters
  rule-size e h = rw e (omega arith)

  -- and the number is put into what is left
  module _ {n : ℕ} (before : List ℕ) (h : length (item_of item) ≤ length before) (e : item ≡ Rule n) where
    room : Room (82 ∷ []) (decimal_of n) (item_of item) before
    unfolding item_of letters
    room = record { joins = rw e; fits = h }

    pub letter-fits : 0 < length before
    letter-fits = first_fits room

    letter-put : Put (82 ∷ []) before 1 (set before 0 82)
    letter-put = byte_put 82 before letter-fits

    pub letter-within : 1 ≤ length (set before 0 82)
    letter-within = ends-within room letter-put

    pub rule_fits : length (decimal_of n) ≤ length (lent 1 (set before 0 82))
    rule_fits = second_fits room letter-put

    module _ {used : ℕ} {t : List ℕ} (q : Put (decimal_of n) (lent 1 (set before 0 82)) used t) where
      pub rule-sum : 1 + used ≤ length before
      rule-sum = both-fit room letter-put q

      pub rule-put : Put (item_of item) before (1 + used) (given 1 (set before 0 82) t)
      rule-put = put_both room letter-put q

      pub rule-length : length (given 1 (set before 0 82) t) ≡ length before
      rule-length = put-length rule-put h

-- ---- and what stands after it

module _ {x before after : List ℕ} {used : ℕ} (b : ℕ) (p : Put x before used after) (h : length (x ++ b ∷ []) ≤ length before) where
  -- there is room for one byte more,
  byte_fits : used < length after
  byte_fits =
      let k : length x ≤ length before = omega (arith, length-append x (b ∷ [])) in
      omega (arith, p.count, length-append x (b ∷ []), put-length p k)

  -- which is put after by one store
  byte-behind : Put (x ++ b ∷ []) before (used + 1) (set after used b)
  byte-behind =
      let k : length x < length before = omega (arith, length-append x (b ∷ [])) in
      let e : after ≡ x ++ get_or before (length x) 0 ∷ drop (suc (length x)) before = p.holds ∙ rw (drop-cons before (length x) 0 k) in
      record {
        count = rw (p.count, length-append x (b ∷ []));
        holds = rw (e, p.count, set_at x (get_or before (length x) 0) (drop (suc (length x)) before) b (length x) refl, length-append x (b ∷ []), add-one (length x)) (sym (append_snoc x b (drop (suc (length x)) before)));
      }

-- of an item
module _ (item : Item) (last : Bool) (before : List ℕ) (h : length (ended_of item last) ≤ length before) where
  pub item-fits : length (item_of item) ≤ length before
  unfolding ended_of
  item-fits = omega (arith, length-append (item_of item) (pick last 10 32 ∷ []))

  module _ {after : List ℕ} {used : ℕ} (p : Put (item_of item) before used after) where
    pub end_fits : used < length after
    unfolding ended_of
    end_fits = byte_fits (pick last 10 32) p h

    module _ {b : ℕ} (e : b ≡ pick last 10 32) where
      pub ended : Put (ended_of item last) before (used + 1) (set after used b)
      unfolding ended_of
      ended = rw e (byte-behind (pick last 10 32) p h)

      pub ended-length : length (set after used b) ≡ length before
      ended-length = put-length ended h
