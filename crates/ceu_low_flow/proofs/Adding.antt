-- Lines that are added one after the other.
use Rattle.std.proofs.Common.{◌≡◌, refl, sym, ap, ◌∙◌, ℕ, zero, suc, ◌+◌, ◌-◌, ◌*◌, ◌<◌, ◌≤◌, List, [], ◌∷◌, ◌++◌, length, get_or, arith, append_assoc, Result, Ok, Err, OnOk, Option, Some, None, if◌then◌else◌}
use Rattle.std.proofs.lemmas.List.{append-nil}
use Rattle.ceu_base.specs.declared.kinds.Port.{Port}
use Rattle.ceu_base.specs.declared.kinds.Pos.{Pos}
use Rattle.ceu_base.specs.declared.kinds.Ty.TheVariants as ty
use Rattle.ceu_tree.specs.declared.kernel.Kernel.{Kernel}
use Rattle.ceu_tree.specs.declared.kernel.KEvent.{KEvent}
use Rattle.ceu_tree.specs.declared.kernel.KArm.{KArm}
use Rattle.ceu_tree.specs.declared.kernel.KBlock.{KBlock}
use Rattle.ceu_tree.specs.declared.kernel.KStmt as k
use Rattle.ceu_tree.specs.declared.kernel.KStmt.{KStmt, Row_of-KArm, end_of-KArm, more_of-KArm, items-the_row-KArm, items_hidden-the_row-KArm-0}
use Rattle.ceu_tree.specs.declared.kernel.KStmt.TheBlock.{hidden-the_row-KArm-0}
use Rattle.ceu_tree.specs.Proper.{port_ty, event_at}
use Rattle.ceu_tree.specs.Weight.{weight}
use Rattle.ceu_shape.specs.Plans.{Plan}
use Rattle.ceu_shape.specs.Searches.{in_code, event_number}
use Rattle.ceu_shape.specs.Shape.{arm_count, node_draft}
use Rattle.ceu_low_flow.specs.Conditions.{part_count, label_count}
use Rattle.ceu_asm.specs.declared.line.Line.{Line}
use Rattle.ceu_asm.specs.declared.line.Labels.{Labels}
use Rattle.ceu_asm.specs.Pages.{Page}
use Rattle.ceu_shape.specs.Words.{mark, goto, goto_if_false, begin_of, end_of, part}
use Rattle.ceu_shape.specs.Flow.{arms_lines, arm_ends, if_draft}

pub on_ok : {T E A B : Type 0} → (r : Result T E) → (A → B) → OnOk r A → OnOk r B
on_ok (Ok v) f h = f h
on_ok (Err e) f h = h

abbrev pub with_lines : Page → List Line → Page
with_lines page ls = record page { lines = ls }

-- these lines, and no label or position
abbrev pub Lined : Page → Page → List Line → Type 0
Lined old new ls = new ≡ with_lines old (old.lines ++ ls)

pub lined_both : (old mid new : Page) (a b : List Line) → Lined old mid a → Lined mid new b → Lined old new (a ++ b)
lined_both old mid new a b f g = g ∙ ap (λ (p : Page). with_lines p (p.lines ++ b)) f ∙ ap (with_lines old) (append_assoc old.lines a b)

-- ---- ports and events by number

pub port_there : (K : Kernel) (k : ℕ) (ps : List Port) (d : Port) → k < length ps → port_ty K k ps ≡ Some (get_or ps k d).ty
port_there K k [] d h = absurd (omega arith)
port_there K zero (q ∷ qs) d h = refl
port_there K (suc k) (q ∷ qs) d h = port_there K k qs d (omega arith)

pub event_there : (K : Kernel) (k : ℕ) (es : List KEvent) (d : KEvent) → k < length es → event_at K k es ≡ Some (get_or es k d)
event_there K k [] d h = absurd (omega arith)
event_there K zero (q ∷ qs) d h = refl
event_there K (suc k) (q ∷ qs) d h = event_there K k qs d (omega arith)

-- the event that a read of a list gives where there is none
abbrev pub no_event : KEvent
no_event = record { ty = ty.None; code = None; pos = record { line = 0; col = 0 } }

pub number_none : (K : Kernel) (k : ℕ) (e : KEvent) → event_at K k K.events ≡ Some e → e.code ≡ None → k ≡ event_number K k
number_none K k e there none =
    sym (ap (λ (o : Option KEvent). if in_code o then k + 32768 else k) there ∙ ap (λ (c : Option ℕ). if in_code (Some (record e { code = c })) then k + 32768 else k) none)

pub number_some : (K : Kernel) (k c : ℕ) (e : KEvent) → event_at K k K.events ≡ Some e → e.code ≡ Some c → k + 32768 ≡ event_number K k
number_some K k c e there some =
    sym (ap (λ (o : Option KEvent). if in_code o then k + 32768 else k) there ∙ ap (λ (c : Option ℕ). if in_code (Some (record e { code = c })) then k + 32768 else k) some)

-- a program of small weight has few inputs, outputs and events
pub few_ports : (K : Kernel) → weight K ≤ 65535 → (length K.inputs < 32768) × (length K.outputs < 32768) × (length K.events < 32768)
unfolding weight
few_ports K h = (omega arith, omega arith, omega arith)

-- ---- the arms of an if, as the code builds them

arm_row : {n : _} (r : Row_of-KArm n) → arm_count r ≡ length (items-the_row-KArm n r)
arm_row end_of-KArm = refl
arm_row (more_of-KArm a rest) = ap suc (arm_row rest)

pub arms_counted : (arms : List KArm) → arm_count (hidden-the_row-KArm-0 arms) ≡ length arms
arms_counted arms = arm_row (hidden-the_row-KArm-0 arms) ∙ ap length (items_hidden-the_row-KArm-0 arms)

pub if_parts : (arms : List KArm) (last : KBlock) → part_count (k.If arms last) ≡ 2 * length arms + 1
if_parts arms last = ap (λ (n : ℕ). 2 * n + 1) (arms_counted arms)

pub if_labels : (arms : List KArm) (last : KBlock) → label_count (k.If arms last) ≡ length arms
if_labels arms last = arms_counted arms

pub if_drafted : (P : Plan) (K : Kernel) (n : ℕ) (p : Pos) (arms : List KArm) (last : KBlock) (labels : Labels) → node_draft P K n p (k.If arms last) labels ≡ if_draft (length arms) labels
if_drafted P K n p arms last labels = ap (λ (c : ℕ). if_draft c labels) (arms_counted arms)

-- ---- the lines of the arms of an if

pub arms_step : (labels : Labels) (all sheet next : Page) (first arm arms : ℕ) → arm < arms → all ≡ with_lines sheet (sheet.lines ++ arms_lines labels (2 * arm) (first + arm) (arms - arm)) →
    next ≡ with_lines sheet (sheet.lines ++ (part labels (2 * arm) ++ (goto_if_false (first + arm) ∷ goto (begin_of labels (2 * arm + 1)) ∷ mark (first + arm) ∷ []))) →
    all ≡ with_lines next (next.lines ++ arms_lines labels (2 * (arm + 1)) (first + (arm + 1)) (arms - (arm + 1)))
arms_step labels all sheet next first arm arms below h e =
    let rest = arms - (arm + 1) in
    let own : List Line = part labels (2 * arm) ++ (goto_if_false (first + arm) ∷ goto (begin_of labels (2 * arm + 1)) ∷ mark (first + arm) ∷ []) in
    let one : arms - arm ≡ suc rest = omega arith in
    let a : 2 * arm + 2 ≡ 2 * (arm + 1) = omega arith in
    let b : first + arm + 1 ≡ first + (arm + 1) = omega arith in
    let split : arms_lines labels (2 * arm) (first + arm) (arms - arm) ≡ own ++ arms_lines labels (2 * (arm + 1)) (first + (arm + 1)) rest =
    ap (arms_lines labels (2 * arm) (first + arm)) one ∙ ap (λ (k : ℕ). own ++ arms_lines labels k (first + arm + 1) rest) a ∙ ap (λ (k : ℕ). own ++ arms_lines labels (2 * (arm + 1)) k rest) b in
    h ∙ ap (λ (ls : List Line). with_lines sheet (sheet.lines ++ ls)) split
    ∙ ap (with_lines sheet) (sym (append_assoc sheet.lines own (arms_lines labels (2 * (arm + 1)) (first + (arm + 1)) rest)))
    ∙ ap (λ (p : Page). with_lines p (p.lines ++ arms_lines labels (2 * (arm + 1)) (first + (arm + 1)) rest)) (sym e)

pub ends_step : (labels : Labels) (all sheet next : Page) (arm arms : ℕ) → arm < arms → all ≡ with_lines sheet (sheet.lines ++ arm_ends labels (2 * arm) (arms - arm)) →
    next ≡ with_lines sheet (sheet.lines ++ mark (end_of labels (2 * arm + 1)) ∷ []) → all ≡ with_lines next (next.lines ++ arm_ends labels (2 * (arm + 1)) (arms - (arm + 1)))
ends_step labels all sheet next arm arms below h e =
    let rest = arms - (arm + 1) in
    let own : List Line = mark (end_of labels (2 * arm + 1)) ∷ [] in
    let one : arms - arm ≡ suc rest = omega arith in
    let a : 2 * arm + 2 ≡ 2 * (arm + 1) = omega arith in
    let split : arm_ends labels (2 * arm) (arms - arm) ≡ own ++ arm_ends labels (2 * (arm + 1)) rest =
    ap (arm_ends labels (2 * arm)) one ∙ ap (λ (k : ℕ). own ++ arm_ends labels k rest) a in
    h ∙ ap (λ (ls : List Line). with_lines sheet (sheet.lines ++ ls)) split
    ∙ ap (with_lines sheet) (sym (append_assoc sheet.lines own (arm_ends labels (2 * (arm + 1)) rest)))
    ∙ ap (λ (p : Page). with_lines p (p.lines ++ arm_ends labels (2 * (arm + 1)) rest)) (sym e)

-- nothing is left
pub all_added : (all sheet : Page) (f : ℕ → List Line) (n : ℕ) → n ≡ 0 → f 0 ≡ [] → all ≡ with_lines sheet (sheet.lines ++ f n) → sheet ≡ all
all_added all sheet f n e none h = sym (h ∙ ap (λ (k : ℕ). with_lines sheet (sheet.lines ++ f k)) e ∙ ap (λ (ls : List Line). with_lines sheet (sheet.lines ++ ls)) none ∙ ap (with_lines sheet) (append-nil sheet.lines))
