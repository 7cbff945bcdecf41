use Rattle.columns.proofs.hexadecimal.+put_hexadecimal.Given as goal

-- what is left of the number
abbrev pub decreases-put_hexadecimal : goal.decreases-put_hexadecimal
decreases-put_hexadecimal l = l.n
