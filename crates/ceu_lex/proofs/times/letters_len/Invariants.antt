use Rattle.std.proofs.Common.{◌≡◌, ◌+◌, ◌-◌, ◌≤◌, length, drop}
use Rattle.std.specs.List.{prefix_len}
use Rattle.std.specs.Char.{is_ascii_alphabetic}
use Rattle.ceu_lex.proofs.times.letters_len.Given as goal

abbrev pub invariant-loop-len : goal.invariant-loop-len
invariant-loop-len l = record {
  same : l.len + prefix_len (λ b. is_ascii_alphabetic b) (drop l.len l.bytes) ≡ prefix_len (λ b. is_ascii_alphabetic b) l.bytes;
  within : l.len ≤ length l.bytes;
}

abbrev pub decreases-loop-len : goal.decreases-loop-len
decreases-loop-len l = length l.bytes - l.len
