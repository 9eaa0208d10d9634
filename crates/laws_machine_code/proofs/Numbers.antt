-- Equal bytes hold equal numbers.
use Rattle.std.proofs.Common.{◌≡◌, sym, ap, ◌∙◌, ◌<◌, ◌≤◌, ℕ, zero, suc, ◌+◌, ◌*◌, List, arith}
use Rattle.std.specs.Prelude.{slice_index}
use Rattle.ceu_mem.specs.Bytes.{number_at}
use Rattle.ceu_mem.proofs.Views.{number_step, number_nothing}

pub number_agrees : (k : ℕ) (a b : List ℕ) (at : ℕ) → ((i : ℕ) → at ≤ i → i < at + k → slice_index a i ≡ slice_index b i) → number_at k a at ≡ number_at k b at
number_agrees zero a b at h = number_nothing a at ∙ sym (number_nothing b at)
number_agrees (suc k) a b at h =
    let first = h at (omega arith) (omega arith) in
    let rest = number_agrees k a b (at + 1) (λ i x y. h i (omega arith) (omega arith)) in
    number_step k a at ∙ ap (λ x. x + 256 * number_at k a (at + 1)) first ∙ ap (λ x. slice_index b at + 256 * x) rest ∙ sym (number_step k b at)
