-- The items of a text before its functions are made of declared words; behind them each struct that is written is declared, and nothing else.
use Rattle.std.proofs.Common.{◌≡◌, ◌≤◌, ◌<◌, ◌||◌, ℕ, Bool, true, false, List, [], ◌∷◌, ◌++◌, Option, Some, None, inl, inr, refl, sym, ap, ◌∙◌, subst, if◌then◌else◌, arith}
use Rattle.std.specs.Prelude.{◌⊎◌, ◌+◌, flat_map, bytes_eq}
use Rattle.std.specs.Option.{option_map_or}
use Rattle.std.proofs.lemmas.Slice.Eq.{bytes_eq-Decides}
use Rattle.std.proofs.lemmas.Bool.{or_left, or_right}
use Rattle.spv_ops.specs.Opcode.{is}
use Rattle.spv_ops.specs.declared.Op.TheVariants as code
use Rattle.spv_module.specs.State.{ModuleState}
use Rattle.spv_module.specs.Lists.{id}
use Rattle.spv_module.specs.declared.inst.Inst.{Inst}
use Rattle.layout_rules.specs.Blocks.{block_of}
use Rattle.profile_rules.specs.declared.constant.ConstantKind.TheVariants as kinds
use Rattle.profile_rules.specs.Constants.{constant_kind}
use Rattle.conformance.specs.Rules.{Options}
use Rattle.hoist_plan.specs.Plan.{has_type}
use Rattle.name_alloc.specs.declared.claims.Key.TheVariants.{Id}
use Rattle.name_alloc.specs.Naming.{name_of}
use Rattle.glsl_ast.specs.Tree.{Text, Decl, TranslationUnit}
use Rattle.glsl_grammar.specs.Read.{is_declared, names_after}
use Rattle.text_rules.specs.Declarations.{Names, struct_decl, constant_decl, variable_decl, declaration, declarations}
use Rattle.text_rules.specs.Printed.{is_private, is_written_struct, is_written_variable, is_declared_constant}
use Rattle.unit_rules.specs.Translation.{id_text}
use Rattle.unit_rules.specs.Unit.{source_of, IsUnitOf}
use Rattle.list_law.proofs.Tests.{off_on}
use Rattle.claim_law.specs.Uses.{Words, UsesExpr}
use Rattle.claim_law.specs.Units.{UseDecls}
use Rattle.claim_law.specs.Blocks.{FitWords}
use Rattle.plan_law.specs.InOrder.{AreRising}
use Rattle.typed_law.specs.Conforms.{IsConforming}
use Rattle.typed_law.specs.Words.{AreGivenWords}
use Rattle.typed_law.proofs.Lists.{and_left, clash}
use Rattle.typed_law.proofs.Used.{global_found}
use Rattle.claim_law.specs.Claimed.{IsIn}
use Rattle.claim_law.proofs.Claim.Told.{named_is}
use Rattle.grammar_law.specs.Words.{words_of, AreOfStructs}
use Rattle.grammar_law.proofs.Unit.Lists.{as_among}
use Rattle.grammar_law.proofs.Unit.Structs.{struct_named}
use Rattle.grammar_law.proofs.Grammar.Held.{Written, AreDeclaredBefore}
use Rattle.grammar_law.proofs.Grammar.StructItems.{N, held_parts, written_held, inner_held, struct_made}
use Rattle.grammar_law.proofs.Grammar.VariableItems.{variable_made}
use Rattle.grammar_law.proofs.Grammar.ConstantItems.{constant_made}

-- the names of structs behind items
abbrev pub names_behind : List (List ℕ) → List Decl → List (List ℕ)
names_behind names [] = names
names_behind names (d ∷ ds) = names_behind (names_after names d) ds

behind_joined : (names : List (List ℕ)) (ds es : List Decl) → names_behind names (ds ++ es) ≡ names_behind (names_behind names ds) es
behind_joined names [] es = refl
behind_joined names (d ∷ ds) es = behind_joined (names_after names d) ds es

pub use_joined : (W : List Text → Words) (names : List (List ℕ)) (ds es : List Decl) → UseDecls W names ds → UseDecls W (names_behind names ds) es → UseDecls W names (ds ++ es)
use_joined W names [] es first second = second
use_joined W names (d ∷ ds) es first second = (first.0, use_joined W (names_after names d) ds es first.1 second)

-- what rises
pub rising_least : (n : ℕ) (gs : List Inst) (h : Inst) → AreRising n gs → IsIn h gs → n ≤ h.at
rising_least n [] h rise among = absurd among
rising_least n (g ∷ gs) h rise (inl same) = subst (λ (x : Inst). n ≤ x.at) same rise.0
rising_least n (g ∷ gs) h rise (inr among) = let far = rising_least (g.at + 1) gs h rise.1 among in let low = rise.0 in omega (arith, far, low)

module _ (m : ModuleState) (entry : Option (List ℕ)) (right : IsConforming m entry) (o : Options) (unit : TranslationUnit) (u : IsUnitOf m o unit) where
  abbrev Names_of : Names
  Names_of = N m entry right o unit u

  abbrev Decls_of : Inst → List Decl
  Decls_of = declaration (source_of m o u.entry) (Written m entry right o unit u) (N m entry right o unit u)

  -- these names are those of structs, and each struct among these that is written has one
  pub record Stands (before : List Inst) (names : List (List ℕ)) : Type 0 where
    pub structs : AreOfStructs m.globals (name_of u.claimed) names
    pub declared : (h : Inst) → IsIn h before → is_written_struct (source_of m o u.entry) (Written m entry right o unit u) h ≡ true → is_declared names (id_text (name_of u.claimed) h.result) ≡ true

  pub first_stands : Stands [] []
  first_stands = record { structs = λ w on. off_on on; declared = λ h h_in on. absurd h_in }

  module _ (words : (h : Inst) → IsIn h m.globals → FitWords h.args) (given : AreGivenWords o.overrides) (rows : (h : Inst) → IsIn h m.heads → FitWords h.args)
      (calculated : (g : Inst) → IsIn g m.globals → is_declared_constant (source_of m o u.entry) (Written m entry right o unit u) g ≡ true → constant_kind g.op ≡ kinds.Operation → (names : List (List ℕ)) → AreOfStructs m.globals (name_of u.claimed) names → AreDeclaredBefore m entry right o unit u names g.at → UsesExpr (words_of m.globals (name_of u.claimed) names) (Names_of.calculated g)) where
    abbrev W : List Text → Words
    W = words_of m.globals (name_of u.claimed)

    module _ (g : Inst) (there : IsIn g m.globals) (before : List Inst) (names : List (List ℕ)) (stands : Stands before names) (earlier : (h : Inst) → IsIn h m.globals → h.at < g.at → IsIn h before) where
      declared : AreDeclaredBefore m entry right o unit u names g.at
      declared h h_in less written = stands.declared h (earlier h h_in less) written

      abbrev Made : List Decl → Type 0
      Made ds = UseDecls W names ds × Stands (g ∷ before) (names_behind names ds)

      -- a struct that is written
      module _ (on : is_written_struct (source_of m o u.entry) (Written m entry right o unit u) g ≡ true) where
        struct : is g.op code.TypeStruct ≡ true
        struct = and_left (is g.op code.TypeStruct) _ on

        abbrev own : List ℕ
        own = id_text (name_of u.claimed) g.result

        struct_key : has_type m.globals code.TypeStruct g.result ≡ true
        struct_key = ap (λ (q : Option Inst). option_map_or (λ (x : Inst). is x.op code.TypeStruct) q false) (global_found m entry right g (as_among m.globals g there)) ∙ struct

        named : AreOfStructs m.globals (name_of u.claimed) (own ∷ names)
        named w w_on = by_test (bytes_eq own w) refl w_on
          where
            by_test : (b : Bool) → bytes_eq own w ≡ b → (b || is_declared names w) ≡ true → (n : ℕ) × (has_type m.globals code.TypeStruct n ≡ true) × ((name_of u.claimed) (Id (id n)) ≡ Some w)
            by_test true same later = (g.result, struct_key, named_is (name_of u.claimed) (Id (id g.result)) (struct_named m o unit u g there struct on) ∙ ap (λ (x : List ℕ). Some x) ((bytes_eq-Decides own w).0 same))
            by_test false other later = stands.structs w later

        declared_now : (h : Inst) → IsIn h (g ∷ before) → is_written_struct (source_of m o u.entry) (Written m entry right o unit u) h ≡ true → is_declared (own ∷ names) (id_text (name_of u.claimed) h.result) ≡ true
        declared_now h (inl same) h_on = or_left (bytes_eq own (id_text (name_of u.claimed) h.result)) (is_declared names (id_text (name_of u.claimed) h.result)) ((bytes_eq-Decides own (id_text (name_of u.claimed) h.result)).1 (ap (λ (x : Inst). id_text (name_of u.claimed) x.result) same))
        declared_now h (inr h_in) h_on = or_right (bytes_eq own (id_text (name_of u.claimed) h.result)) (is_declared names (id_text (name_of u.claimed) h.result)) (stands.declared h h_in h_on)

        struct_item : Made (struct_decl (source_of m o u.entry) Names_of g ∷ [])
        struct_item =
            let held = written_held m entry right o unit u g there struct on in
            let parts = held_parts m entry right o unit u g there struct held in (
              (
                struct_made m entry right o unit u g there struct words given names stands.structs g.at (let low : g.at ≤ g.at = omega arith in low) declared (λ j ts all has. inner_held m entry right o unit u g there struct held j ts all has) parts.0 parts.1 on,
                tt,
              ),
              record { structs = named; declared = declared_now },
            )

      -- something else
      module _ (off : is_written_struct (source_of m o u.entry) (Written m entry right o unit u) g ≡ false) where
        same_stands : Stands (g ∷ before) names
        same_stands = record { structs = stands.structs; declared = declared_still }
          where
            declared_still : (h : Inst) → IsIn h (g ∷ before) → is_written_struct (source_of m o u.entry) (Written m entry right o unit u) h ≡ true → is_declared names (id_text (name_of u.claimed) h.result) ≡ true
            declared_still h (inl same) h_on = clash (sym h_on ∙ (ap (is_written_struct (source_of m o u.entry) (Written m entry right o unit u)) (sym same) ∙ off))
            declared_still h (inr h_in) h_on = stands.declared h h_in h_on

        variable_names : names_behind names (variable_decl (source_of m o u.entry) Names_of g (block_of m.globals g)) ≡ names
        variable_names = by_block (block_of m.globals g)
          where
            by_class : (b : Bool) (x y : Decl) → names_after names x ≡ names → names_after names y ≡ names → names_behind names ((if b then x else y) ∷ []) ≡ names
            by_class true x y p q = p
            by_class false x y p q = q

            by_block : (q : Option Inst) → names_behind names (variable_decl (source_of m o u.entry) Names_of g q) ≡ names
            by_block None = by_class (is_private g) _ _ refl refl
            by_block (Some b) = refl

        other_item : Made (if is_declared_constant (source_of m o u.entry) (Written m entry right o unit u) g then constant_decl (source_of m o u.entry) Names_of g ∷ [] else (if is_written_variable (Written m entry right o unit u) g then variable_decl (source_of m o u.entry) Names_of g (block_of m.globals g) else []))
        other_item = by_constant (is_declared_constant (source_of m o u.entry) (Written m entry right o unit u) g) refl
          where
            by_variable : (b : Bool) → is_written_variable (Written m entry right o unit u) g ≡ b → Made (if b then variable_decl (source_of m o u.entry) Names_of g (block_of m.globals g) else [])
            by_variable true on = (variable_made m entry right o unit u g there on words given names stands.structs declared rows, subst (Stands (g ∷ before)) (sym variable_names) same_stands)
            by_variable false none = (tt, same_stands)

            by_constant : (b : Bool) → is_declared_constant (source_of m o u.entry) (Written m entry right o unit u) g ≡ b → Made (if b then constant_decl (source_of m o u.entry) Names_of g ∷ [] else (if is_written_variable (Written m entry right o unit u) g then variable_decl (source_of m o u.entry) Names_of g (block_of m.globals g) else []))
            by_constant true on = ((constant_made m entry right o unit u g there on words given names stands.structs declared (λ kind. calculated g there on kind names stands.structs declared) rows, tt), same_stands)
            by_constant false none = by_variable (is_written_variable (Written m entry right o unit u) g) refl

      one_item : Made (Decls_of g)
      one_item = by_struct (is_written_struct (source_of m o u.entry) (Written m entry right o unit u) g) refl
        where
          by_struct : (b : Bool) → is_written_struct (source_of m o u.entry) (Written m entry right o unit u) g ≡ b
              → Made (if b then struct_decl (source_of m o u.entry) Names_of g ∷ [] else (if is_declared_constant (source_of m o u.entry) (Written m entry right o unit u) g then constant_decl (source_of m o u.entry) Names_of g ∷ [] else (if is_written_variable (Written m entry right o unit u) g then variable_decl (source_of m o u.entry) Names_of g (block_of m.globals g) else [])))
          by_struct true on = struct_item on
          by_struct false off = other_item off

    -- along the items
    items_from : (k : ℕ) (after before : List Inst) (names : List (List ℕ)) → Stands before names → AreRising k after → ((h : Inst) → IsIn h after → IsIn h m.globals) → ((h : Inst) → IsIn h m.globals → IsIn h before ⊎ IsIn h after)
        → UseDecls W names (flat_map Decls_of after) × ((all : List Inst) × Stands all (names_behind names (flat_map Decls_of after)) × ((h : Inst) → IsIn h m.globals → IsIn h all))
    items_from k [] before names stands rise sub rest = (tt, (before, stands, λ h h_in. by_rest h (rest h h_in)))
      where
        by_rest : (h : Inst) → IsIn h before ⊎ IsIn h [] → IsIn h before
        by_rest h (inl there) = there
        by_rest h (inr none) = absurd none
    items_from k (g ∷ after) before names stands rise sub rest =
        let one = one_item g (sub g (inl refl)) before names stands (λ h h_in less. by_earlier h (rest h h_in) less) in
        let more = items_from (g.at + 1) after (g ∷ before) (names_behind names (Decls_of g)) one.1 rise.1 (λ h h_in. sub h (inr h_in)) (λ h h_in. by_next h (rest h h_in)) in (
          use_joined W names (Decls_of g) (flat_map Decls_of after) one.0 more.0,
          (more.1.0, subst (Stands more.1.0) (sym (behind_joined names (Decls_of g) (flat_map Decls_of after))) more.1.1, more.1.2),
        )
      where
        by_later : (h : Inst) → (g ≡ h) ⊎ IsIn h after → h.at < g.at → ⊥
        by_later h (inl same) less = let at : g.at ≡ h.at = ap (λ (x : Inst). x.at) same in omega (arith, less, at)
        by_later h (inr h_in) less = let far = rising_least (g.at + 1) after h rise.1 h_in in omega (arith, less, far)

        by_earlier : (h : Inst) → IsIn h before ⊎ IsIn h (g ∷ after) → h.at < g.at → IsIn h before
        by_earlier h (inl there) less = there
        by_earlier h (inr later) less = absurd (by_later h later less)

        by_next : (h : Inst) → IsIn h before ⊎ IsIn h (g ∷ after) → IsIn h (g ∷ before) ⊎ IsIn h after
        by_next h (inl there) = inl (inr there)
        by_next h (inr (inl same)) = inl (inl same)
        by_next h (inr (inr later)) = inr later

    abbrev pub Items : List Decl
    Items = declarations (source_of m o u.entry) (Written m entry right o unit u) (N m entry right o unit u)

    abbrev pub LastNames : List (List ℕ)
    LastNames = names_behind [] Items

    whole : UseDecls W [] Items × ((all : List Inst) × Stands all LastNames × ((h : Inst) → IsIn h m.globals → IsIn h all))
    whole = items_from 0 m.globals [] [] first_stands right.rising (λ h h_in. h_in) (λ h h_in. inr h_in)

    -- the law
    pub items_made : UseDecls W [] Items
    items_made = whole.0

    pub last_structs : AreOfStructs m.globals (name_of u.claimed) LastNames
    last_structs = whole.1.1.structs

    pub last_declared : (h : Inst) → IsIn h m.globals → is_written_struct (source_of m o u.entry) (Written m entry right o unit u) h ≡ true → is_declared LastNames (id_text (name_of u.claimed) h.result) ≡ true
    last_declared h h_in on = whole.1.1.declared h (whole.1.2 h h_in) on
