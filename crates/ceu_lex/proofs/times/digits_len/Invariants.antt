use Rattle.std.proofs.Common.{◌≡◌, ◌+◌, ◌-◌, ◌≤◌, length, drop, take, true}
use Rattle.std.specs.List.{prefix_len, list_all}
use Rattle.std.specs.Char.{is_ascii_digit}
use Rattle.ceu_lex.proofs.times.digits_len.Given as goal

abbrev pub invariant-loop-len : goal.invariant-loop-len
invariant-loop-len l = record {
  same : l.len + prefix_len (λ b. is_ascii_digit b) (drop l.len l.bytes) ≡ prefix_len (λ b. is_ascii_digit b) l.bytes;
  within : l.len ≤ length l.bytes;
  all : list_all (λ b. is_ascii_digit b) (take l.len l.bytes) ≡ true;
}

abbrev pub decreases-loop-len : goal.decreases-loop-len
decreases-loop-len l = length l.bytes - l.len
