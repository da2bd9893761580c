-- What is written of the moves of a planned edge is what the law of edges asks: by the names of its spares, and by types that stand for the shapes of what these hold.
use Rattle.std.proofs.Common.{◌≡◌, ◌==◌, ◌<◌, ◌^◌, ℕ, Bool, true, false, List, [], ◌∷◌, ◌++◌, length, map, filter, reverse, Option, Some, None, Contains, inl, inr, refl, sym, ap, ap₂, ◌∙◌, subst}
use Rattle.std.specs.Prelude.{◌⊎◌, slice_get, if◌then◌else◌}
use Rattle.std.specs.List.{list_any}
use Rattle.std.proofs.lemmas.Bool.Decides.{eqb_tells}
use Rattle.std.proofs.lemmas.List.{reverse-append}
use Rattle.std.proofs.lemmas.Option.{same_Some}
use Rattle.spv_module.specs.State.{ModuleState}
use Rattle.spv_module.specs.Lists.{id}
use Rattle.spv_module.specs.declared.inst.Block.{Block}
use Rattle.phi_copies.specs.declared.moves.Var.{Var}
use Rattle.phi_copies.specs.declared.moves.Src.{Src}
use Rattle.phi_copies.specs.declared.moves.Src.TheVariants.{Var as Variable, Constant}
use Rattle.phi_copies.specs.declared.moves.Move.{Move}
use Rattle.phi_copies.specs.declared.moves.Move.TheVariants.{Set, Save, Restore}
use Rattle.phi_copies.specs.Sequence.{Pair, target, is_proper, IsSequence}
use Rattle.conformance.specs.Rules.{Options}
use Rattle.traces.specs.Invocations.{Invocation}
use Rattle.name_alloc.specs.declared.claims.Key.{Key}
use Rattle.name_alloc.specs.declared.claims.Key.TheVariants.{Id, Spare}
use Rattle.name_alloc.specs.Naming.{name_of}
use Rattle.glsl_ast.specs.Tree.{Text, uint, TypeName, type_name, Expr, name, Stmt, declare, assign, lvalue, TranslationUnit}
use Rattle.glsl_semantics.specs.Expressions.{Program, type_of}
use Rattle.text_rules.specs.Declarations.{type_at}
use Rattle.expr_forward.specs.Scope as scope
use Rattle.expr_forward.specs.Scope.{Scope}
use Rattle.function_plan.specs.Once.{once, itself}
use Rattle.function_plan.specs.Phis.{pairs, firsts}
use Rattle.function_plan.specs.Planned.{spares_in}
use Rattle.function_plan.specs.Targets.{targets_in}
use Rattle.function_text.specs.Functions as text
use Rattle.function_text.specs.Functions.{FunctionPlan, written, label_of, constant_text, source_expr, copies_text}
use Rattle.unit_rules.specs.Translation.{text_of}
use Rattle.unit_rules.specs.Unit.{IsUnitOf}
use Rattle.agree_law.specs.Agree.{Naming}
use Rattle.claim_law.specs.Claimed.{IsIn, HasName}
use Rattle.claim_law.proofs.Claim.Named.{spare_named}
use Rattle.edge_law.specs.Copies.{EdgeNames, source_text, move_text}
use Rattle.text_law.proofs.Naming.Keys.{names}
use Rattle.safe_law.proofs.Flags.{planned}
use Rattle.grammar_law.proofs.Grammar.Moving as moving
use Rattle.grammar_law.proofs.Grammar.Moving.{edge_moves}
use Rattle.text_law.proofs.Written.EdgeMoves.{saved_in, IsMoveOf, moves_are_of, spare_shape_of}
use Rattle.text_law.proofs.Moves.Spares.{spare_text, spare_named_as}

-- the source of a pair is this constant
abbrev pub reads_source : ℕ → Src → Bool
reads_source n (Variable v) = false
reads_source n (Constant c) = c.0 == n

abbrev pub reads_constant : ℕ → Pair → Bool
reads_constant n q = reads_source n q.1

map_same : (f g : Move → Stmt) (qs : List Move) → ((q : Move) → IsIn q qs → f q ≡ g q) → map f qs ≡ map g qs
map_same f g [] same = refl
map_same f g (q ∷ qs) same = ap₂ (λ (x : Stmt) (xs : List Stmt). x ∷ xs) (same q (inl refl)) (map_same f g qs (λ r among. same r (inr among)))

-- what a spare stands for was saved
was_saved : (h : List Move) (k x : ℕ) → saved_in h k ≡ Some x → (v : Var) × IsIn (Save k v) h × (v.0 ≡ x)
was_saved [] k x is = cc
was_saved (Set v s ∷ h) k x is = let w = was_saved h k x is in (w.0, inr w.1, w.2)
was_saved (Restore v j ∷ h) k x is = let w = was_saved h k x is in (w.0, inr w.1, w.2)
was_saved (Save j v ∷ h) k x is = by_test (eqb_tells j k) (was_saved h k x)
  where
    by_test : (((j == k) ≡ true) × (j ≡ k)) ⊎ (((j == k) ≡ false) × (j ≡ k → ⊥)) → (saved_in h k ≡ Some x → (w : Var) × IsIn (Save k w) h × (w.0 ≡ x)) → (w : Var) × IsIn (Save k w) (Save j v ∷ h) × (w.0 ≡ x)
    by_test (inl w) later = (v, inl (ap (λ (n : ℕ). Save n v) w.1), same_Some v.0 x (sym (ap (λ (b : Bool). if b then Some v.0 else saved_in h k) w.0) ∙ is))
    by_test (inr w) later = let r = later (sym (ap (λ (b : Bool). if b then Some v.0 else saved_in h k) w.0) ∙ is) in (r.0, inr r.1, r.2)

-- what stands in a list that is turned stands in it
of_turned : (q : Move) (ms : List Move) → IsIn q (reverse ms) → IsIn q ms
of_turned q [] there = absurd there
of_turned q (x ∷ ms) there = by_place (joined (reverse ms) (subst (IsIn q) (reverse-append (x ∷ []) ms) there)) (of_turned q ms)
  where
    joined : (xs : List Move) → IsIn q (xs ++ x ∷ []) → IsIn q xs ⊎ (x ≡ q)
    joined [] (inl same) = inr same
    joined [] (inr none) = absurd none
    joined (y ∷ xs) (inl same) = inl (inl same)
    joined (y ∷ xs) (inr later) = elim (joined xs later) [ inl w ↦ inl (inr w) | inr same ↦ inr same ]

    by_place : IsIn q (reverse ms) ⊎ (x ≡ q) → (IsIn q (reverse ms) → IsIn q ms) → IsIn q (x ∷ ms)
    by_place (inl w) later = inr (later w)
    by_place (inr same) later = inl same

module _ (m : ModuleState) (o : Options) (unit : TranslationUnit) (u : IsUnitOf m o unit) (inv : Invocation) (p : FunctionPlan) (among : IsIn p u.plans) (b t : ℕ) where
  abbrev found : Key → Option Text
  found = name_of u.claimed

  abbrev N : Naming
  N = names m o unit u inv p

  abbrev moves : List Move
  moves = p.moves b t

  abbrev pub saved : ℕ → Option ℕ
  saved = saved_in (reverse moves)

  abbrev spare_key : ℕ → Key
  spare_key k = Spare (label_of p b) (label_of p t) k

  -- the type of what a spare stands for
  abbrev typed_at : ℕ → TypeName
  typed_at v = type_at p.scope.setting.source p.scope.names (scope.type_of p.scope v)

  abbrev type_saved : Option ℕ → TypeName
  type_saved None = type_name uint []
  type_saved (Some v) = typed_at v

  abbrev pub all_pairs : List Pair
  all_pairs = pairs m.globals p.scope.form (written p) b t

  -- The names of the edge: its spares are of the types of what they stand for, and the constants are those of its pairs.
  abbrev pub edge_names : EdgeNames
  edge_names = record {
    spare = spare_text found (label_of p b) (label_of p t);
    spare_shape = λ k. spare_shape_of N (saved k);
    spare_type = λ k. type_saved (saved k);
    constant = constant_text p.scope;
    is_constant = λ n. list_any (reads_constant n) all_pairs;
  }

  key_is : p.scope.setting.key ≡ text_of found
  key_is = ap (λ (w : Scope). w.setting.key) (planned m o unit u p among).1.scope_is

  function_is : (planned m o unit u p among).0 ≡ written p
  function_is = sym (ap (λ (w : Scope). w.setting.function) (planned m o unit u p among).1.scope_is)

  -- the moves are a sequence for the pairs
  pub sequence_is : IsSequence (firsts all_pairs) moves
  sequence_is = subst (λ f. IsSequence (firsts (pairs m.globals p.scope.form f b t)) moves) function_is ((planned m o unit u p among).1.moves_are b t)

  abbrev pub proper : List Pair
  proper = filter is_proper (firsts all_pairs)

  pub move_of : (q : Move) → IsIn q moves → IsMoveOf proper saved q
  move_of q there = moves_are_of proper moves sequence_is.next q there

  source_is : (s : Src) → source_expr p.scope s ≡ source_text N edge_names s
  source_is (Variable v) = ap (λ (g : Key → Text). name (g (Id (id v.0)))) key_is
  source_is (Constant c) = refl

  -- where its spares have names, if it has pairs, each move is written so
  module _ (named : (q : Pair) → Contains proper q → (k : ℕ) → k < spares_in moves → HasName found (spare_key k)) where
    move_is : (q : Move) → IsMoveOf proper saved q → moving.IsMoveOf all_pairs (spares_in moves) q → text.move_text p b t q ≡ move_text N edge_names q
    move_is (Set v s) is low =
        ap (λ (g : Key → Text). assign (lvalue (g (Id (id v.0))) []) (source_expr p.scope s)) key_is
        ∙ ap (λ (e : Expr). assign (lvalue (N.name v.0) []) e) (source_is s)
    move_is (Save k v) is low =
        ap (λ (g : Key → Text). declare (typed_at v.0) (g (spare_key k)) (Some (name (g (Id (id v.0)))))) key_is
        ∙ (ap (λ (x : Text). declare (typed_at v.0) x (Some (name (N.name v.0)))) (spare_named_as found (label_of p b) (label_of p t) k (named is.0 is.1 k low.0))
        ∙ ap (λ (q : Option ℕ). declare (type_saved q) (spare_text found (label_of p b) (label_of p t) k) (Some (name (N.name v.0)))) (sym is.3))
    move_is (Restore v k) is low =
        ap (λ (g : Key → Text). assign (lvalue (g (Id (id v.0))) []) (name (g (spare_key k)))) key_is
        ∙ ap (λ (x : Text). assign (lvalue (N.name v.0) []) (name x)) (spare_named_as found (label_of p b) (label_of p t) k (named (v, Variable is.0) is.1 k low.0))

    pub copies_are : length all_pairs < 2 ^ 32 → copies_text p b t ≡ map (move_text N edge_names) moves
    copies_are few = map_same (text.move_text p b t) (move_text N edge_names) moves (λ q there. move_is q (move_of q there) (edge_moves all_pairs moves sequence_is few q there))

  -- the spares of an edge whose target is among those of its block have names
  pub all_named : (block : Block) → slice_get (written p).blocks b ≡ Some block → IsIn t (once itself (targets_in p.graph b)) → (k : ℕ) → k < spares_in moves → HasName found (spare_key k)
  all_named block at aimed k less = spare_named m o unit u p b t k block among at aimed less

  -- Where the types of the targets of pairs stand for their shapes, so do those of spares.
  pub spare_types : (program : Program) → ((q : Pair) → Contains proper q → type_of program (typed_at (target q)) ≡ Some (N.shape (target q))) → (k : ℕ) → type_of program (type_saved (saved k)) ≡ Some (spare_shape_of N (saved k))
  spare_types program stand k = by_saved (saved k) refl
    where
      by_saved : (x : Option ℕ) → saved k ≡ x → type_of program (type_saved x) ≡ Some (spare_shape_of N x)
      by_saved None is = refl
      by_saved (Some x) is =
          let w = was_saved (reverse moves) k x is in
          let of_pair = move_of (Save k w.0) (of_turned (Save k w.0) moves w.1) in
          subst (λ (n : ℕ). type_of program (typed_at n) ≡ Some (N.shape n)) (ap (λ (v : Var). v.0) of_pair.2 ∙ w.2) (stand of_pair.0 of_pair.1)
