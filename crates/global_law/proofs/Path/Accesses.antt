-- Loads, stores and atomic instructions: the text of their pointer is what they ask of it.
use Rattle.std.proofs.Common.{◌≡◌, ◌==◌, ℕ, true, List, [], Option, Some, None, refl, sym, ap, ◌∙◌, subst}
use Rattle.std.specs.Prelude.{option_and_then}
use Rattle.std.proofs.lemmas.Slice.Eq.{bytes_eq-Decides}
use Rattle.std.proofs.lemmas.Bool.{and_from}
use Rattle.std.proofs.lemmas.Option.{same_Some}
use Rattle.spv_ops.specs.declared.AtomicOp.{AtomicOp}
use Rattle.spv_module.specs.declared.inst.Inst.{Inst}
use Rattle.spv_module.specs.declared.inst.Function.{Function}
use Rattle.spv_module.specs.declared.tree.Length.TheVariants.{Fixed, Spec}
use Rattle.spv_types.specs.Tree as plain
use Rattle.spv_types.specs.Tree.{Tree, ValueTree}
use Rattle.spv_types.specs.Types.{type_tree}
use Rattle.spv_types.specs.Leaves.{IsSized}
use Rattle.spv_index.specs.Pointers.{pointee_of}
use Rattle.op_semantics.specs.Composite.{extracted}
use Rattle.profile_rules.specs.declared.given.Given.{Given}
use Rattle.value_words.specs.Words.{value_from}
use Rattle.traces.specs.Events.{Access, Location, updating}
use Rattle.traces.specs.Runs.{Supplied}
use Rattle.traces.specs.Outcomes.{Result, got, with_before, then_get}
use Rattle.module_semantics.specs.Setting.{Setting}
use Rattle.module_semantics.specs.Memory.{location, shape_along}
use Rattle.module_semantics.specs.State.{Root, own, Conf}
use Rattle.module_semantics.specs.Operands.{pointer_at, Target, arg}
use Rattle.module_semantics.specs.Accesses.{seen, kept}
use Rattle.name_alloc.specs.declared.claims.Key.{Key}
use Rattle.access_paths.specs.Ways.{path}
use Rattle.glsl_ast.specs.Tree.{Text, Expr, Exprs, expr}
use Rattle.glsl_semantics.specs.Shapes as shapes
use Rattle.glsl_semantics.specs.Shapes.{Shape, Typed, typed, tree_of, same_elem, same_shape}
use Rattle.glsl_semantics.specs.Places as place
use Rattle.glsl_semantics.specs.Places.{Site, location_of}
use Rattle.glsl_semantics.specs.States.{State, Thing, value, variable, instance, memory, fetch, variable_value}
use Rattle.glsl_semantics.specs.Expressions as expressions
use Rattle.glsl_semantics.specs.Expressions.{Program, Argument, AtomicFunction, operand_words, call_kind, then_fetch, values, evaluate}
use Rattle.expr_forward.specs.Scope as scope
use Rattle.expr_forward.specs.Paths.{base_text, steps_text, place_expr}
use Rattle.list_law.proofs.Numbers.{number_itself}
use Rattle.list_law.proofs.Options.{none_or_some}
use Rattle.list_law.proofs.Lists.{none_behind}
use Rattle.type_law.specs.Shaped.{AreConstants}
use Rattle.lowering_law.proofs.Composites.{elem_itself}
use Rattle.agree_law.specs.Agree.{Naming, AreApart}
use Rattle.agree_law.specs.Blocks.{Stands}
use Rattle.agree_law.specs.Evaluates.{IsKept}
use Rattle.agree_law.proofs.Machine.{machine}
use Rattle.agree_law.proofs.Instructions.{ReadsSeen, Reads, WritesSeen, Updates}
use Rattle.global_law.specs.Parts.{shape_in, IsShape, HasScalars, part_value, IsPart}
use Rattle.global_law.specs.Walks.{writing, struct_names}
use Rattle.global_law.proofs.Path.Parts.{sized_lengths, only_shape}
use Rattle.global_law.proofs.Path.Leaves.{same_value, sized_in, places_are}
use Rattle.global_law.proofs.Path.Walks.{IsPlace, IsNoBlock, part_of}
use Rattle.global_law.proofs.Path.Pointers.{first_type, Leads, place_stands, expr_stands}

-- the type of a value is itself
pub shape_itself : (s : Setting) (key : Key → Text) (t : Tree) → IsSized t → same_shape (shape_in s (struct_names key) t) (shape_in s (struct_names key) t) ≡ true
shape_itself s key plain.boolean z = refl
shape_itself s key plain.int z = refl
shape_itself s key plain.uint z = refl
shape_itself s key (plain.vector e n) z = and_from (same_elem e e) (n == n) (elem_itself e) (number_itself n)
shape_itself s key (plain.array t (Fixed n)) z = and_from (same_shape (shape_in s (struct_names key) t) (shape_in s (struct_names key) t)) (n == n) (shape_itself s key t z) (number_itself n)
shape_itself s key (plain.array t (Spec id)) z = absurd z
shape_itself s key (plain.runtime t) z = absurd z
shape_itself s key (plain.struct id ts) z = (bytes_eq-Decides ((struct_names key).struct_name id) ((struct_names key).struct_name id)).1 refl

module _ (p : Program) (calls : Text → List Argument → State → Result (Option Typed × State)) (k : ℕ) (m : Naming) (names : AreApart m) (s : Setting) (Holds : Conf → Type 0) (f : Function) (b : ℕ) (keeps : IsKept (machine s) Holds) (done : List Inst) (i : Inst) (rest : List Inst)
    (overrides : List (ℕ × Given)) (key : Key → Text) (globals : ℕ → Option Expr) (right : AreConstants s) (c : Supplied Conf) (z : State) (stands : Stands m s Holds f b done c z) where
  abbrev W : scope.Setting
  W = writing s overrides f key globals

  abbrev Gs : List Inst
  Gs = s.of.globals

  abbrev n : ℕ
  n = arg i 0

  abbrev L : Root → List ℕ → Type 0
  L r at = Leads p calls z m s overrides f key globals right c.at stands.agree.all b n r at

  -- where the instruction's pointer leads, if it does, its text does too
  abbrev pub PointerLeads : Type 0
  PointerLeads = (r : Root) (at : List ℕ) → pointer_at s c.at.top n ≡ Some (r, at) → L r at

  -- the shape of what the pointer points to, which is that of a value, and of no block
  pub record PointsTo (t : Tree) : Type 0 where
    pub type : ℕ
    pub points_to : pointee_of Gs f n ≡ Some type
    pub typed_as : type_tree Gs type ≡ Some t
    pub sized : IsSized t
    pub no_block : IsNoBlock p calls z s overrides f key globals right c.at [] [] (own 0) t

  abbrev S : Tree → Shape
  S t = shape_in s (struct_names key) t

  -- the thing for which the text stands
  abbrev pub Part : (r : Root) (at : List ℕ) → L r at → Tree → Thing → Type 0
  Part r at l t a = IsPart s (struct_names key) c.at (base_text W l.begin) l.from r at t a

  pub part_there : (t : Tree) (q : PointsTo t) (r : Root) (at : List ℕ) (l : L r at) → Part r at l t l.to
  part_there t q r at l =
      let type : l.type ≡ q.type = same_Some l.type q.type (sym l.points_to ∙ q.points_to) in
      let shape : l.shape ≡ t = same_Some l.shape t (sym l.typed_as ∙ ap (type_tree Gs) type ∙ q.typed_as) in
      part_of p calls z s overrides f key globals right c.at (base_text W l.begin) l.from r at t l.to (no_block t q.no_block)
      (subst (λ u. IsPlace p calls z s overrides f key globals right c.at (base_text W l.begin) l.from r at u l.to) shape l.place)
    where
      no_block : (t : Tree) → IsNoBlock p calls z s overrides f key globals right c.at [] [] (own 0) t → IsNoBlock p calls z s overrides f key globals right c.at (base_text W l.begin) l.from r t
      no_block plain.boolean h = tt
      no_block plain.int h = tt
      no_block plain.uint h = tt
      no_block (plain.vector e j) h = tt
      no_block (plain.array t l) h = tt
      no_block (plain.runtime t) h = tt
      no_block (plain.struct id ts) h = h

  -- In memory: the place has the scalars of the part.
  pub record InMemory (t : Tree) (v : Inst) (at : List ℕ) (a : Thing) : Type 0 where
    pub site : Site
    pub thing : a ≡ memory site (S t)
    pub along : shape_along s v at ≡ Some t
    pub scalars : HasScalars s v at t (S t) site

  -- the type of a value is in the text its shape
  value_shape : (t : Tree) (q : Shape) → IsSized t → IsShape s (struct_names key) t q → q ≡ S t
  value_shape t q sized is = only_shape s (struct_names key) t q (sized_lengths t sized) is

  in_memory : (t : Tree) → IsSized t → (r : Root) (at : List ℕ) (x : Text) (from : List ℕ) (v : Inst) (a : Thing) → IsPart s (struct_names key) c.at x from r at t a → seen s r ≡ Some v → InMemory t v at a
  in_memory t sized r at x from v (value (typed q u)) is sees = absurd (none_or_some (seen s r) v is.0 sees)
  in_memory t sized r at x from v (variable w way q o) is sees = absurd (none_or_some (seen s r) v is.0 sees)
  in_memory t sized r at x from v (instance place kind members) is sees = absurd is
  in_memory t sized r at x from v (memory site q) is sees =
      let same : is.0 ≡ v = same_Some is.0 v (sym is.1 ∙ sees) in
      let shape : q ≡ S t = value_shape t q sized is.2 in
      record { site = site; thing = ap (memory site) shape; along = subst (λ w. shape_along s w at ≡ Some t) same is.3; scalars = subst (λ a. HasScalars s v at t a site) shape (subst (λ w. HasScalars s w at t q site) same is.4) }

  -- and else: the value of the part, where it has one
  held_value : (t : Tree) → IsSized t → (r : Root) (at : List ℕ) (x : Text) (from : List ℕ) (v : ValueTree) (a : Thing) → IsPart s (struct_names key) c.at x from r at t a → seen s r ≡ None → part_value s c.at r at ≡ Some v → fetch a z ≡ got [] (typed (S t) v, z)
  held_value t sized r at x from v (value (typed q u)) is unseen has = ap (λ a. got [] (typed a u, z)) (value_shape t q sized is.1) ∙ ap (λ a. got [] (typed (S t) a, z)) (same_Some u v (sym is.2 ∙ has))
  held_value t sized r at x from v (variable w way q o) is unseen has = ap (λ o. variable_value q o z) (is.2 ∙ has) ∙ ap (λ a. got [] (typed a v, z)) (value_shape t q sized is.1)
  held_value t sized r at x from v (instance place kind members) is unseen has = absurd is
  held_value t sized r at x from v (memory site q) is unseen has = absurd (none_or_some (seen s r) is.0 unseen is.1)

  got_back : (g : Result (Typed × State)) (y : Typed × State) → g ≡ got [] y → with_before [] (then_get g (λ (y : Typed × State). got [] (y.0, y.1))) ≡ got [] y
  got_back g y is = ap (λ g. with_before [] (then_get g (λ (y : Typed × State). got [] (y.0, y.1)))) is

  -- OpLoad: its result has the type of what the pointer points to
  pub reads_met : (t : Tree) → PointsTo t → m.shape i.result ≡ S t → PointerLeads → Reads p calls k m names s Holds f b keeps done i rest c z (place_expr W b n)
  reads_met t q result leads = record { seen_part = seen_part; own_part = own_part }
    where
      seen_part : (g : Target) → pointer_at s c.at.top n ≡ Some g → (v : Inst) → seen s g.0 ≡ Some v → (u : Tree) → shape_along s v g.1 ≡ Some u → ReadsSeen p calls k m names s Holds f b keeps done i rest c z (place_expr W b n) v g.1 u
      seen_part g is v sees u along =
          let l = leads g.0 g.1 is in
          let at = in_memory t q.sized g.0 g.1 (base_text W l.begin) l.from v l.to (part_there t q g.0 g.1 l) sees in
          let same : t ≡ u = same_Some t u (sym at.along ∙ along) in
          record {
            site = at.site;
            stands_for = expr_stands p calls z m s overrides f key globals right c.at stands.agree.all b n g.0 g.1 l ∙ ap (λ a. got [] (a, z)) at.thing ∙ ap (λ a. got [] (memory at.site a, z)) (sym result);
            sized = ap shapes.is_sized result ∙ sized_in s (struct_names key) t q.sized;
            places = ap (λ a. place.locations (tree_of a) at.site) result ∙ places_are s (struct_names key) v g.1 t at.site q.sized at.along at.scalars;
            values = λ words. ap (λ a. value_from (tree_of a) words) result ∙ same_value s (struct_names key) t q.sized words ∙ ap (λ a. value_from a words) same;
          }

      own_part : (g : Target) → pointer_at s c.at.top n ≡ Some g → seen s g.0 ≡ None → (v : ValueTree) → option_and_then (extracted g.1) (kept s c.at g.0) ≡ Some v → evaluate p calls (place_expr W b n) z ≡ got [] (typed (m.shape i.result) v, z)
      own_part g is unseen v has =
          let l = leads g.0 g.1 is in
          let fetched = held_value t q.sized g.0 g.1 (base_text W l.begin) l.from v l.to (part_there t q g.0 g.1 l) unseen has in
          ap (λ (g : Result (Thing × State)). then_fetch g (λ v y. got [] (v, y))) (expr_stands p calls z m s overrides f key globals right c.at stands.agree.all b n g.0 g.1 l)
          ∙ got_back (fetch l.to z) (typed (S t) v, z) fetched ∙ ap (λ a. got [] (typed a v, z)) (sym result)

  -- the left side of a store, in memory
  pub writes_seen : (t : Tree) → PointsTo t → PointerLeads → (g : Target) → pointer_at s c.at.top n ≡ Some g → (v : Inst) → seen s g.0 ≡ Some v
      → WritesSeen p calls k m names s Holds f b keeps done i rest z (base_text W (path Gs f b n).base) (steps_text W (first_type p calls z m s overrides f key globals right c.at stands.agree.all b (path Gs f b n).base) (path Gs f b n).steps) (S t) v g.1
  writes_seen t q leads g is v sees =
      let l = leads g.0 g.1 is in
      let at = in_memory t q.sized g.0 g.1 (base_text W l.begin) l.from v l.to (part_there t q g.0 g.1 l) sees in
      record {
        site = at.site;
        stands_for = place_stands p calls z m s overrides f key globals right c.at stands.agree.all b n g.0 g.1 l ∙ ap (λ a. got [] (a, z)) at.thing;
        places = places_are s (struct_names key) v g.1 t at.site q.sized at.along at.scalars;
      }

  -- Atomic instructions: the first argument is the place, and the others say the operands.
  pub record SaysOperands (o : AtomicOp) (w : Text) (es : Exprs) (shape : Shape) (access : Location → Access) : Type 0 where
    pub function : AtomicFunction
    pub kind : call_kind p w ≡ expressions.atomic function
    pub operands : List Typed
    pub words : List ℕ
    pub say : values p calls es z ≡ got [] (operands, z)
    pub fit : operand_words function shape operands ≡ Some words
    pub same : (at : Location) → updating (expressions.atomic_operation function shape) at words ≡ access at

  pub updates_met : (o : AtomicOp) (t : Tree) → PointsTo t → PointerLeads → (w : Text) (es : Exprs) (access : Location → Access) → SaysOperands o w es (S t) access → (g : Target) (v : Inst) → pointer_at s c.at.top n ≡ Some g → seen s g.0 ≡ Some v
      → Updates p calls k m names s Holds f b keeps done i rest o z w (expr (place_expr W b n) es) (S t) (access (location s v g.1))
  updates_met o t q leads w es access says g v is sees =
      let l = leads g.0 g.1 is in
      let at = in_memory t q.sized g.0 g.1 (base_text W l.begin) l.from v l.to (part_there t q g.0 g.1 l) sees in
      record {
        function = says.function;
        kind = says.kind;
        site = at.site;
        operands = says.operands;
        words = says.words;
        places =
            ap (λ (h : Result (Thing × State)). then_get h (λ x. then_get (values p calls es x.1) (λ y. got [] (x.0, y.0, y.1)))) (expr_stands p calls z m s overrides f key globals right c.at stands.agree.all b n g.0 g.1 l ∙ ap (λ a. got [] (a, z)) at.thing)
            ∙ ap (λ (h : Result (List Typed × State)). with_before {A = Thing × List Typed × State} [] (then_get h (λ y. got [] (memory at.site (S t), y.0, y.1)))) says.say;
        fit = says.fit;
        same = says.same (location_of at.site) ∙ ap access (at.scalars [] refl ∙ ap (location s v) (none_behind g.1));
      }
