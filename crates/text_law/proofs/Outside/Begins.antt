-- At the start of a run the text of an accepted module has its Private variables with the values that the module's have, and nothing else by a name that stands outside of functions.
use Rattle.std.proofs.Common.{◌≡◌, ◌++◌, ◌||◌, ◌&&◌, ℕ, Bool, true, false, List, [], ◌∷◌, Option, Some, None, inl, inr, refl, sym, ap, ◌∙◌, subst, if◌then◌else◌}
use Rattle.std.specs.Prelude.{flat_map, is_some, option_and_then}
use Rattle.std.specs.Option.{option_map_or}
use Rattle.std.specs.List.{list_all}
use Rattle.std.proofs.lemmas.Bool.{and_parts, or_right}
use Rattle.std.proofs.lemmas.List.Concat.{flat_map-cons}
use Rattle.spv_module.specs.Held.{global}
use Rattle.spv_module.specs.Lists.{id}
use Rattle.spv_module.specs.State.{ModuleState}
use Rattle.spv_module.specs.declared.inst.Inst.{Inst}
use Rattle.spv_module.specs.declared.inst.Function.{Function}
use Rattle.spv_types.specs.Tree.{ValueTree}
use Rattle.layout_rules.specs.Blocks.{block_of}
use Rattle.conformance.specs.Rules.{Options}
use Rattle.module_check.specs.Judged.{IsFine}
use Rattle.module_check.specs.ReadFrom.{IsReadFrom}
use Rattle.profile_rules.specs.Entry.{function_of}
use Rattle.profile_rules.specs.Places.{is_variable}
use Rattle.traces.specs.Invocations.{Invocation, IsInvocation}
use Rattle.module_semantics.specs.Setting.{Setting, as_variable, global_variable, is_mentioned}
use Rattle.module_semantics.specs.State.{Conf}
use Rattle.module_semantics.specs.Accesses.{initial, initial_private}
use Rattle.module_semantics.specs.Run.{has_value_if, is_fine_private, have_values, start_by, start}
use Rattle.name_alloc.specs.declared.claims.Key.{Key}
use Rattle.name_alloc.specs.declared.claims.Key.TheVariants.{Id}
use Rattle.glsl_ast.specs.Tree as items
use Rattle.glsl_ast.specs.Tree.{Text, Decl, TranslationUnit}
use Rattle.glsl_semantics.specs.Shapes.{Typed, typed}
use Rattle.glsl_semantics.specs.States.{found as stands_by}
use Rattle.glsl_semantics.specs.Expressions.{type_of}
use Rattle.glsl_semantics.specs.Items.{Declared, global_value, with_global, with_item, with_items, declared_by}
use Rattle.text_rules.specs.Constants.{Source}
use Rattle.text_rules.specs.Printed.{Reached, is_private, is_workgroup, is_block_variable, is_operand_in, is_written_variable, is_declared_constant, is_written_struct}
use Rattle.text_rules.specs.Declarations.{Names, type_at, pointee_at, initial as initial_text, struct_decl, constant_decl, variable_decl, declaration, declarations}
use Rattle.function_text.specs.Functions.{FunctionPlan, written}
use Rattle.unit_rules.specs.Unit.{source_of, IsUnitOf}
use Rattle.list_law.proofs.Options.{some_of}
use Rattle.plan_law.specs.InOrder.{IsAmong}
use Rattle.agree_law.specs.Agree.{Naming, is_named, variable_with, AreApart}
use Rattle.typed_law.specs.Conforms.{IsConforming}
use Rattle.typed_law.proofs.Lists.{found_in, some_by}
use Rattle.typed_law.proofs.Used.{global_found}
use Rattle.accepted_law.proofs.Accepted.{accepted_conforming}
use Rattle.global_law.specs.Parts.{shape_in}
use Rattle.global_law.specs.Walks.{struct_names}
use Rattle.global_law.proofs.Global.Blocks.{items_more}
use Rattle.global_law.specs.Items.{AreAsked}
use Rattle.global_law.proofs.Constant.Standing.{N as item_names, bytes_off}
use Rattle.global_law.proofs.Constant.Constants.{IsFunction, AreFunctions, first, last}
use Rattle.global_law.proofs.Constant.Variables.{among_here, functions_find, private_begins, private_valued}
use Rattle.global_law.proofs.Global.Privates.{items_find}
use Rattle.claim_law.specs.Claimed.{IsIn}
use Rattle.grammar_law.proofs.Unit.Lists.{as_among}
use Rattle.text_law.specs.Names.{is_written_private}
use Rattle.text_law.proofs.Naming.Alone.{are_alone}
use Rattle.text_law.proofs.Naming.Functions.{function_of_plan}
use Rattle.text_law.proofs.Naming.Keys.{S, found as names_found, key as key_of, R, names as names_in, are_apart}
use Rattle.text_law.specs.Left.{IsLeftOfGlobals}
use Rattle.text_law.proofs.Outside.Text.{fs as function_items, are_functions, asked as asked_of, D as declared_in, mentions, there, itself, points, own, split, shape_is}

-- a function leaves what does not stick
function_fine : (d : Declared) (i : Decl) → IsFunction i → d.is_stuck ≡ false → (with_item d i).is_stuck ≡ false
function_fine d (Decl.struct w fs) on fine = absurd on
function_fine d (items.constant spec t w e) on fine = absurd on
function_fine d (items.shared t w) on fine = absurd on
function_fine d (items.global t w e) on fine = absurd on
function_fine d (items.block place q quals buffer w members y) on fine = absurd on
function_fine d (Decl.function result w params body) on fine = fine

functions_fine : (fs : List Decl) (d : Declared) → AreFunctions fs → d.is_stuck ≡ false → (with_items d fs).is_stuck ≡ false
functions_fine [] d are fine = fine
functions_fine (i ∷ fs) d are fine = functions_fine fs (with_item d i) are.1 (function_fine d i are.0 fine)

all_at : (test : Inst → Bool) (gs : List Inst) (g : Inst) → list_all test gs ≡ true → IsAmong g gs → test g ≡ true
all_at test [] g on there = absurd there
all_at test (x ∷ gs) g on (inl same) = subst (λ (y : Inst). test y ≡ true) same (and_parts (test x) (list_all test gs) on).0
all_at test (x ∷ gs) g on (inr there) = all_at test gs g (and_parts (test x) (list_all test gs) on).1 there

-- a run that begins has the values that it needs
begun_by : (s : Setting) (b : Bool) (o : Option Function) (c : Conf) → start_by s b o ≡ Some c → b ≡ true
begun_by s true o c e = refl
begun_by s false None c e = cc
begun_by s false (Some f) c e = cc

have_begun : (s : Setting) (c : Conf) → start s ≡ Some c → have_values s ≡ true
unfolding start
have_begun s c e = begun_by s (have_values s) (function_of s.of.functions s.entry) c e

variable_private : (v : Inst) → is_private v ≡ true → is_variable v ≡ true
variable_private v on = (and_parts (is_variable v) _ on).0

module _ (bytes : List ℕ) (m : ModuleState) (o : Options) (read : IsReadFrom bytes m) (fine : IsFine m o) (unit : TranslationUnit) (u : IsUnitOf m o unit) (inv : Invocation) (told : IsInvocation inv) (left : IsLeftOfGlobals bytes m o) where
  abbrev s : Setting
  s = S m o unit u inv

  abbrev found : Key → Option Text
  found = names_found m o unit u inv

  abbrev key : Key → Text
  key = key_of m o unit u inv

  abbrev r : Reached
  r = R m o unit u inv

  abbrev src : Source
  src = source_of m o u.entry

  abbrev Gs : List Inst
  Gs = m.globals

  abbrev fs : List Decl
  fs = function_items bytes m o read fine unit u inv told left

  abbrev asked : AreAsked s o.entry o.overrides found r
  asked = asked_of bytes m o read fine unit u inv told left

  abbrev D : Declared
  D = declared_in bytes m o read fine unit u inv told left

  abbrev Ns : Names
  Ns = item_names s o.entry o.overrides found r asked

  functions : AreFunctions fs
  functions = are_functions bytes m o read fine unit u inv told left

  abbrev right : IsConforming m o.entry
  right = accepted_conforming bytes m o read fine

  -- the variable of the module with an id
  as_global : (n : ℕ) (v : Inst) → global Gs n ≡ Some v → is_variable v ≡ true → global_variable s n ≡ Some v
  as_global n v at on = ap (λ (a : Option Inst). elim a as (λ a. Option Inst) [ None ↦ None | Some g ↦ as_variable g ]) at ∙ ap (λ (b : Bool). elim b as (λ b. Option Inst) [ true ↦ Some v | false ↦ None ]) on

  -- a Private variable that functions mention has a value
  module _ (c : Conf) (begun : start s ≡ Some c) (v : Inst) (among : IsAmong v Gs) (private : is_private v ≡ true) (mentioned : is_operand_in r.functions v.result ≡ true) where
    variable_is : global_variable s v.result ≡ Some v
    variable_is = as_global v.result v (global_found m o.entry right v among) (variable_private v private)

    value_there : (a : ValueTree) × (initial_private s v.result ≡ Some a)
    value_there =
        let has : is_some (initial s v) ≡ true =
        sym (ap (λ (b : Bool). elim b as (λ b. Bool) [ true ↦ has_value_if s v (is_mentioned s v.result) | false ↦ true ]) private ∙ ap (has_value_if s v) (sym (mentions bytes m o read fine unit u inv told left v.result) ∙ mentioned))
        ∙ all_at (is_fine_private s) Gs v (have_begun s c begun) among in
        let a = some_of (initial s v) has in
        (a.0, ap (option_and_then (initial s)) variable_is ∙ a.1)

  abbrev IsGiven : Declared → Inst → Type 0
  IsGiven d v = is_private v ≡ true → is_written_variable r v ≡ true → (w : Typed) × (global_value d (type_of d.program (type_at src Ns (pointee_at src v.ty))) (initial_text src Ns v) ≡ Some w)

  -- an item of a variable that has a value leaves what does not stick
  item_fine : (d : Declared) (g : Inst) → IsGiven d g → d.is_stuck ≡ false → (with_items d (declaration src r Ns g)).is_stuck ≡ false
  item_fine d g given good = by_kind (is_written_struct src r g) (is_declared_constant src r g) (is_written_variable r g) refl
    where
      by_value : (a : Option Typed) (w : Typed) → a ≡ Some w → (with_global (Ns.id g.result) a d).is_stuck ≡ false
      by_value None w e = cc
      by_value (Some v) w e = good

      by_private : (b : Bool) → is_private g ≡ b → is_written_variable r g ≡ true
          → (with_items d ((if b then items.global (type_at src Ns (pointee_at src g.ty)) (Ns.id g.result) (initial_text src Ns g) else items.shared (type_at src Ns (pointee_at src g.ty)) (Ns.id g.result)) ∷ [])).is_stuck ≡ false
      by_private true private written = let w = given private written in by_value (global_value d (type_of d.program (type_at src Ns (pointee_at src g.ty))) (initial_text src Ns g)) w.0 w.1
      by_private false private written = good

      by_block : (a : Option Inst) → is_written_variable r g ≡ true → (with_items d (variable_decl src Ns g a)).is_stuck ≡ false
      by_block (Some b) written = good
      by_block None written = by_private (is_private g) refl written

      by_kind : (a b c : Bool) → is_written_variable r g ≡ c → (with_items d (if a then struct_decl src Ns g ∷ [] else (if b then constant_decl src Ns g ∷ [] else (if c then variable_decl src Ns g (block_of Gs g) else [])))).is_stuck ≡ false
      by_kind true b c is = good
      by_kind false true c is = good
      by_kind false false true is = by_block (block_of Gs g) is
      by_kind false false false is = good

  items_fine : (after : List Inst) (d : Declared) → ((front back : List Inst) (v : Inst) → after ≡ front ++ v ∷ back → IsGiven (with_items d (flat_map (declaration src r Ns) front)) v) → d.is_stuck ≡ false → (with_items d (flat_map (declaration src r Ns) after)).is_stuck ≡ false
  items_fine [] d given good = good
  items_fine (g ∷ gs) d given good =
      subst (λ (e : Declared). e.is_stuck ≡ false) (sym (ap (with_items d) (flat_map-cons (declaration src r Ns) g gs) ∙ items_more (declaration src r Ns g) (flat_map (declaration src r Ns) gs) d))
      (items_fine gs (with_items d (declaration src r Ns g))
      (λ front back v whole. subst (λ (e : Declared). IsGiven e v) (ap (with_items d) (flat_map-cons (declaration src r Ns) g front) ∙ items_more (declaration src r Ns g) (flat_map (declaration src r Ns) front) d) (given (g ∷ front) back v (ap (λ l. g ∷ l) whole)))
      (item_fine d g (given [] gs g refl) good))

  module _ (c : Conf) (begun : start s ≡ Some c) where
    given : (front back : List Inst) (v : Inst) → Gs ≡ front ++ v ∷ back → IsGiven (with_items (first s o.overrides) (flat_map (declaration src r Ns) front)) v
    given front back v whole private written =
        let mentioned = (and_parts (is_private v || (is_workgroup v || is_block_variable v)) (is_operand_in r.functions v.result) written).1 in
        let among : IsAmong v Gs = subst (IsAmong v) (sym whole) (among_here front back v) in
        let itself = variable_is c begun v among private mentioned in
        let a = value_there c begun v among private mentioned in
        let q = points bytes m o read fine unit u inv told left v.result v itself in
        (typed (shape_in s (struct_names key) q.1) a.0, private_valued s o.entry o.overrides found r asked front back v whole private mentioned q.0 q.1 q.2 q.3 a.0 itself a.1)

    -- So each variable of the text begins with a value.
    pub not_stuck : D.is_stuck ≡ false
    unfolding declared_by
    not_stuck =
        ap (λ (d : Declared). d.is_stuck) (items_more (declarations src r Ns) fs (first s o.overrides))
        ∙ functions_fine fs (with_items (first s o.overrides) (declarations src r Ns)) functions (items_fine Gs (first s o.overrides) given refl)

  module _ (p : FunctionPlan) (planned : IsIn p u.plans) where
    abbrev N : Naming
    N = names_in m o unit u inv p

    -- and a Private variable with that which it has in the module
    pub private_first : (c : Conf) → start s ≡ Some c → (n : ℕ) → N.is_private n ≡ true → stands_by D.globals (N.name n) ≡ Some (variable_with (N.shape n) (initial_private s n))
    private_first c begun n on =
        let g = some_by (is_written_private s o.overrides r key) (global Gs n) on in
        let parts = and_parts (is_private g.0) (is_written_variable r g.0) g.2 in
        let mentioned = (and_parts (is_private g.0 || (is_workgroup g.0 || is_block_variable g.0)) (is_operand_in r.functions g.0.result) parts.1).1 in
        let is_it = as_global n g.0 g.1 (variable_private g.0 parts.0) in
        let at = split bytes m o read fine unit u inv told left n g.0 is_it in
        let q = points bytes m o read fine unit u inv told left n g.0 is_it in
        let a = value_there c begun g.0 (found_in Gs n g.0 g.1) parts.0 mentioned in
        let begins = private_begins s o.entry o.overrides found r asked at.0 at.1 g.0 at.2 parts.0 mentioned q.0 q.1 q.2 q.3 fs functions a.0 (own bytes m o read fine unit u inv told left n g.0 is_it) a.1 in
        subst (λ k. stands_by D.globals (key (Id (id k))) ≡ Some (variable_with (N.shape n) (initial_private s k))) (itself bytes m o read fine unit u inv told left n g.0 is_it)
        (begins ∙ ap (λ t. Some (variable_with t (initial_private s g.0.result))) (sym (shape_is bytes m o read fine unit u inv told left n g.0 is_it (written p))))

    apart : AreApart N
    apart =
        are_apart m o unit u inv p planned (are_alone s o.entry right (written p) (function_of_plan bytes m o read fine unit u p planned))
        (λ g there. global_found m o.entry right g (as_among Gs g there))

    -- What stands outside of functions is hidden by no variable of the text.
    pub outside_first : (x : Text) → N.is_outside x ≡ true → stands_by D.globals x ≡ None
    unfolding declared_by
    outside_first x out =
        let w = last s o.entry o.overrides found r asked fs functions in
        ap (λ (d : Declared). stands_by d.globals x) (items_more (declarations src r Ns) fs (first s o.overrides))
        ∙ items_find fs (with_items (first s o.overrides) (declarations src r Ns)) x (functions_find fs x functions)
        ∙ w.stands.hidden x (λ g there private written. bytes_off (key (Id (id g.result))) x ((apart.outside x out).0 g.result (named g there private written)))
      where
        named : (g : Inst) → IsAmong g Gs → is_private g ≡ true → is_written_variable r g ≡ true → is_named N g.result ≡ true
        named g there private written =
            let own_one : N.is_private g.result ≡ true = ap (λ (a : Option Inst). option_map_or (is_written_private s o.overrides r key) a false) (global_found m o.entry right g there) ∙ (ap (λ (b : Bool). b && is_written_variable r g) private ∙ written) in
            or_right (N.is_outer g.result) _ (or_right (N.is_local g.result) _ (or_right (N.is_variable g.result) _ (or_right (N.is_lent g.result) (N.is_private g.result) own_one)))
