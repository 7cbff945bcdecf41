-- `meaning` meets its contract: in each arm, the words of the table. Assumes nothing.
use mathlib.Core.Path.{sym}
use native.Mathlib.Omega.{arith}
use Rattle.types.specs.Letters.{letters}
use Rattle.labels.specs.Meanings.{meanings, meaning_of}
use Rattle.labels.proofs.TextBounds.{meaningless}
use Rattle.labels.proofs.meaning.meaning.Goals as goal

pub returns-in-0 : goal.returns-in-0
unfolding letters meanings meaning_of
returns-in-0 c = rw c.in-0.is

pub returns-in-1 : goal.returns-in-1
unfolding letters meanings meaning_of
returns-in-1 c = rw c.in-1.is

pub returns-in-2 : goal.returns-in-2
unfolding letters meanings meaning_of
returns-in-2 c = rw c.in-2.is

pub returns-in-3 : goal.returns-in-3
unfolding letters meanings meaning_of
returns-in-3 c = rw c.in-3.is

pub returns-in-4 : goal.returns-in-4
unfolding letters meanings meaning_of
returns-in-4 c = rw c.in-4.is

pub returns-in-5 : goal.returns-in-5
unfolding letters meanings meaning_of
returns-in-5 c = rw c.in-5.is

pub returns-in-6 : goal.returns-in-6
unfolding letters meanings meaning_of
returns-in-6 c = rw c.in-6.is

pub returns-in-7 : goal.returns-in-7
unfolding letters meanings meaning_of
returns-in-7 c = rw c.in-7.is

pub returns-in-8 : goal.returns-in-8
unfolding letters meanings meaning_of
returns-in-8 c = rw c.in-8.is

pub returns-in-9 : goal.returns-in-9
unfolding letters meanings meaning_of
returns-in-9 c = rw c.in-9.is

pub returns-in-10 : goal.returns-in-10
unfolding letters meanings meaning_of
returns-in-10 c = rw c.in-10.is

pub returns-in-11 : goal.returns-in-11
unfolding letters meanings meaning_of
returns-in-11 c = rw c.in-11.is

pub returns-in-12 : goal.returns-in-12
unfolding letters meanings meaning_of
returns-in-12 c = rw c.in-12.is

pub returns-in-13 : goal.returns-in-13
unfolding letters meanings meaning_of
returns-in-13 c = rw c.in-13.is

pub returns-in-14 : goal.returns-in-14
unfolding letters meanings meaning_of
returns-in-14 c = rw c.in-14.is

pub returns-in-15 : goal.returns-in-15
unfolding letters meanings meaning_of
returns-in-15 c = rw c.in-15.is

pub returns-in-16 : goal.returns-in-16
unfolding letters meanings meaning_of
returns-in-16 c = rw c.in-16.is

pub returns-in-17 : goal.returns-in-17
unfolding letters meanings meaning_of
returns-in-17 c = rw c.in-17.is

pub returns-in-18 : goal.returns-in-18
unfolding letters meanings meaning_of
returns-in-18 c = rw c.in-18.is

pub returns-in-19 : goal.returns-in-19
unfolding letters meanings meaning_of
returns-in-19 c = rw c.in-19.is

-- another number stands in no row
pub returns-in-20-to-255 : goal.returns-in-20-to-255
returns-in-20-to-255 c = sym (meaningless c.args.number (omega arith))
