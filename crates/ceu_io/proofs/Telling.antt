-- Laws of what is told or not, over calls one after the other.
use Rattle.std.proofs.Common.{Option, Some, None, refl}
use Rattle.ceu_io.specs.Told.{WhereTold}

-- a weaker fact
pub where_told_map : {A : Type 0} (x y : Option A) (P Q : A → A → Type 0) → ((a b : A) → P a b → Q a b) → WhereTold x y P → WhereTold x y Q
where_told_map None y P Q f told = told
where_told_map (Some a) None P Q f told = told
where_told_map (Some a) (Some b) P Q f told = f a b told

-- nothing was called
pub where_told_same : {A : Type 0} (x : Option A) (P : A → A → Type 0) → ((a : A) → P a a) → WhereTold x x P
where_told_same None P f = refl
where_told_same (Some a) P f = f a

-- two calls
pub where_told_then : {A : Type 0} (x y z : Option A) (P Q R : A → A → Type 0) → ((a b c : A) → P a b → Q b c → R a c) → WhereTold x y P → WhereTold y z Q → WhereTold x z R
where_told_then None None z P Q R f first then = then
where_told_then None (Some b) z P Q R f first then = absurd (cc)
where_told_then (Some a) None z P Q R f first then = absurd first
where_told_then (Some a) (Some b) None P Q R f first then = absurd then
where_told_then (Some a) (Some b) (Some c) P Q R f first then = f a b c first then
