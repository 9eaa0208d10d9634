-- Lists within lists, and pieces of code within pieces.
use Rattle.std.proofs.Common.{◌≡◌, refl, sym, ap, ◌∙◌, subst, ℕ, ◌+◌, List, [], ◌++◌, append_assoc}
use Rattle.std.proofs.lemmas.List.{append-nil}
use Rattle.ceu_base.specs.declared.kinds.Pos.{Pos}
use Rattle.ceu_code.specs.declared.image.Image.{Image}
use Rattle.ceu_asm.specs.declared.line.Line.{Line}
use Rattle.ceu_asm.specs.Lines.{code_size}
use Rattle.laws_machine_code.specs.Placed.{Placed}
use Rattle.laws_machine_code.proofs.Lines.{parts_are_placed}
use Rattle.ceu_shape.specs.Pieces.{Piece, Draft, joined, both, text}

pub record Cut {A : Type 0} (whole part : List A) : Type 0 where
  pub before : List A
  pub after : List A
  pub is : whole ≡ before ++ (part ++ after)

pub cut_all : {A : Type 0} (xs : List A) → Cut xs xs
cut_all xs = record { before = []; after = []; is = sym (append-nil xs) }

pub cut_is : {A : Type 0} (xs ys zs : List A) → xs ≡ ys → Cut ys zs → Cut xs zs
cut_is xs ys zs e c = record { before = c.before; after = c.after; is = e ∙ c.is }

pub cut_then : {A : Type 0} (xs ys zs : List A) → Cut xs ys → Cut ys zs → Cut xs zs
cut_then xs ys zs c d = record {
  before = c.before ++ d.before;
  after = d.after ++ c.after;
  is =
      c.is ∙ ap (λ l. c.before ++ (l ++ c.after)) d.is
      ∙ ap (λ l. c.before ++ l) (append_assoc d.before (zs ++ d.after) c.after ∙ ap (λ l. d.before ++ l) (append_assoc zs d.after c.after))
      ∙ sym (append_assoc c.before d.before (zs ++ (d.after ++ c.after)));
}

-- the first of what stands there
pub cut_first : {A : Type 0} (xs ys zs : List A) → Cut xs (ys ++ zs) → Cut xs ys
cut_first xs ys zs c = record { before = c.before; after = zs ++ c.after; is = c.is ∙ ap (λ l. c.before ++ l) (append_assoc ys zs c.after) }

pub cut_left : {A : Type 0} (xs ys zs : List A) → Cut xs zs → Cut (xs ++ ys) zs
cut_left xs ys zs c = record {
  before = c.before;
  after = c.after ++ ys;
  is = ap (λ l. l ++ ys) c.is ∙ append_assoc c.before (zs ++ c.after) ys ∙ ap (λ l. c.before ++ l) (append_assoc zs c.after ys);
}

pub cut_right : {A : Type 0} (xs ys zs : List A) → Cut ys zs → Cut (xs ++ ys) zs
cut_right xs ys zs c = record { before = xs ++ c.before; after = c.after; is = ap (λ l. xs ++ l) c.is ∙ sym (append_assoc xs c.before (zs ++ c.after)) }

-- ---- pieces

-- a piece within another, with these lines behind it
pub record Inside (whole part : Piece) (more : List Line) : Type 0 where
  pub lines : (number : Pos → ℕ) → Cut (whole.lines number) (part.lines number ++ more)
  pub stops : Cut whole.stops part.stops

pub inside_itself : (a : Piece) → Inside a a []
inside_itself a = record {
  lines = λ number. record { before = []; after = []; is = sym (append-nil (a.lines number)) ∙ sym (append-nil (a.lines number ++ [])) };
  stops = cut_all a.stops;
}

pub inside_then : (a b c : Piece) (more then : List Line) → Inside a b more → Inside b c then → Inside a c then
inside_then a b c more then x y = record {
  lines = λ number. cut_then (a.lines number) (b.lines number) (c.lines number ++ then) (cut_first (a.lines number) (b.lines number) more (x.lines number)) (y.lines number);
  stops = cut_then a.stops b.stops c.stops x.stops y.stops;
}

pub inside_left : (a b c : Piece) (more : List Line) → Inside a c more → Inside (joined a b) c more
inside_left a b c more x = record { lines = λ number. cut_left (a.lines number) (b.lines number) (c.lines number ++ more) (x.lines number); stops = cut_left a.stops b.stops c.stops x.stops }

pub inside_right : (a b c : Piece) (more : List Line) → Inside b c more → Inside (joined a b) c more
inside_right a b c more x = record { lines = λ number. cut_right (a.lines number) (b.lines number) (c.lines number ++ more) (x.lines number); stops = cut_right a.stops b.stops c.stops x.stops }

-- a piece and lines behind it
pub inside_before : (d : Draft) (more : List Line) (fresh : ℕ) → Inside (both d (text more) fresh) (d fresh) more
inside_before d more fresh = record {
  lines = λ number. cut_all ((d fresh).lines number ++ more);
  stops = record { before = []; after = []; is = refl };
}

-- ---- where they stand

pub record Found (image : Image) (labels : ℕ → ℕ) (lines : List Line) : Type 0 where
  pub at : ℕ
  pub there : Placed image labels at lines

pub placed_cut : (image : Image) (labels : ℕ → ℕ) (at : ℕ) (whole part behind : List Line) → Cut whole part → Placed image labels at (whole ++ behind) → Found image labels part
placed_cut image labels at whole part behind c h =
    let first = (parts_are_placed image labels at whole behind h).0 in
    let moved = subst (Placed image labels at) c.is first in
    let later = (parts_are_placed image labels at c.before (part ++ c.after) moved).1 in
    record { at = at + code_size c.before; there = (parts_are_placed image labels (at + code_size c.before) part c.after later).0 }
