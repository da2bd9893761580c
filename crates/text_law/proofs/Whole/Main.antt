-- The function of the entry point is called main in the text of a module.
use Rattle.std.proofs.Common.{◌≡◌, ◌++◌, ◌==◌, ◌||◌, ℕ, Bool, true, false, List, [], ◌∷◌, map, codes, Option, Some, None, refl, sym, ap, ◌∙◌, subst, if◌then◌else◌}
use Rattle.std.specs.Prelude.{flat_map, option_map}
use Rattle.std.specs.List.{enumerate_from, range_with_len}
use Rattle.spv_ops.specs.Opcode.{is}
use Rattle.spv_ops.specs.declared.Op.TheVariants as code
use Rattle.spv_module.specs.Lists.{id}
use Rattle.spv_module.specs.State.{ModuleState}
use Rattle.spv_module.specs.declared.inst.Id.{Id as IdOf}
use Rattle.spv_module.specs.declared.inst.Inst.{Inst}
use Rattle.spv_module.specs.declared.inst.Block.{Block}
use Rattle.spv_decor.specs.Rows.{member_name_of}
use Rattle.list_law.proofs.Lists.{same_first, same_rest}
use Rattle.spv_index.specs.Locals.{insts_of}
use Rattle.layout_rules.specs.Blocks.{block_of}
use Rattle.conformance.specs.Rules.{Options}
use Rattle.name_alloc.specs.declared.claims.Claim.{Claim as ClaimOf}
use Rattle.name_alloc.specs.declared.claims.Key.{Key}
use Rattle.name_alloc.specs.declared.claims.Key.TheVariants.{Main, Member, Captured, Spare, Again, Leave, Fell}
use Rattle.name_alloc.specs.Base.{base_of}
use Rattle.name_alloc.specs.Keys.{same_key}
use Rattle.name_alloc.specs.Naming.{none_taken, claim_name, name_of, is_claimed}
use Rattle.name_alloc.proofs.Lawful.{name_before}
use Rattle.glsl_ast.specs.Tree.{TranslationUnit}
use Rattle.text_rules.specs.Constants.{Source}
use Rattle.text_rules.specs.Printed.{Reached, is_written_struct, is_declared_constant, is_written_variable}
use Rattle.text_rules.specs.Declarations.{members}
use Rattle.text_rules.specs.Claims.{Claim, Plan, claim_id, is_written_block, claim_members, claim_struct, claim_block, claim_variable, claim_global, claim_function, when, label, claim_captured, claim_spares, claim_flow}
use Rattle.text_items.specs.View.{claim_of, claims_of}
use Rattle.unit_rules.specs.Unit.{claims_by, reached_of, source_of, IsUnitOf}

abbrev is_main : Key → Bool
is_main Main = true
is_main _ = false

abbrev HaveNoMain : List Claim → Type 0
HaveNoMain [] = Unit {0}
HaveNoMain (c ∷ cs) = (is_main c.0 ≡ false) × HaveNoMain cs

none_joined : (cs ds : List Claim) → HaveNoMain cs → HaveNoMain ds → HaveNoMain (cs ++ ds)
none_joined [] ds a b = b
none_joined (c ∷ cs) ds a b = (a.0, none_joined cs ds a.1 b)

none_mapped : {A : Type 0} (f : A → Claim) (xs : List A) → ((x : A) → is_main (f x).0 ≡ false) → HaveNoMain (map f xs)
none_mapped f [] each = tt
none_mapped f (x ∷ xs) each = (each x, none_mapped f xs each)

none_flat : {A : Type 0} (f : A → List Claim) (xs : List A) → ((x : A) → HaveNoMain (f x)) → HaveNoMain (flat_map f xs)
none_flat f [] each = tt
none_flat f (x ∷ xs) each = none_joined (f x) (flat_map f xs) (each x) (none_flat f xs each)

none_if : (b : Bool) (cs ds : List Claim) → HaveNoMain cs → HaveNoMain ds → HaveNoMain (if b then cs else ds)
none_if true cs ds x y = x
none_if false cs ds x y = y

none_when : (b : Bool) (key : Key) → is_main key ≡ false → HaveNoMain (when b key)
none_when true key off = (off, tt)
none_when false key off = tt

module _ (s : Source) (r : Reached) where
  none_block : (v : Inst) (o : Option Inst) → HaveNoMain (claim_block s v o)
  none_block v None = tt
  none_block v (Some g) = (refl, tt)

  none_struct : (g : Inst) → HaveNoMain (claim_struct s r g)
  none_struct g =
      none_joined (if is_written_struct s r g then claim_id s g.result else []) (if is_written_struct s r g || is_written_block s r g.result then claim_members s g else [])
      (none_if (is_written_struct s r g) (claim_id s g.result) [] (refl, tt) tt)
      (none_if (is_written_struct s r g || is_written_block s r g.result) (claim_members s g) [] (none_mapped (λ (m : ℕ × ℕ). (Member (id g.result) m.0, member_name_of s.of.heads g.result m.0)) (members g) (λ m. refl)) tt)

  none_global : (g : Inst) → HaveNoMain (claim_global s r g)
  none_global g =
      none_if (is g.op code.TypeStruct) (claim_struct s r g) (if is_declared_constant s r g then claim_id s g.result else (if is_written_variable r g then claim_variable s g else [])) (none_struct g)
      (none_if (is_declared_constant s r g) (claim_id s g.result) (if is_written_variable r g then claim_variable s g else []) (refl, tt)
      (none_if (is_written_variable r g) (claim_variable s g) [] (none_joined (claim_id s g.result) (claim_block s g (block_of s.of.globals g)) (refl, tt) (none_block g (block_of s.of.globals g))) tt))

  none_function : (p : Plan) → HaveNoMain (claim_function s p)
  none_function p =
      none_joined (if p.function.id.0 == s.entry then [] else claim_id s p.function.id.0)
      (flat_map (λ (param : IdOf × IdOf). claim_id s param.0.0) p.function.params ++ flat_map (λ (i : Inst). if p.is_named i.result then claim_id s i.result else []) (insts_of p.function))
      (none_if (p.function.id.0 == s.entry) [] (claim_id s p.function.id.0) tt (refl, tt))
      (none_joined (flat_map (λ (param : IdOf × IdOf). claim_id s param.0.0) p.function.params) (flat_map (λ (i : Inst). if p.is_named i.result then claim_id s i.result else []) (insts_of p.function))
      (none_flat (λ (param : IdOf × IdOf). claim_id s param.0.0) p.function.params (λ param. (refl, tt)))
      (none_flat (λ (i : Inst). if p.is_named i.result then claim_id s i.result else []) (insts_of p.function) (λ i. none_if (p.is_named i.result) (claim_id s i.result) [] (refl, tt) tt)))

  none_flow : (p : Plan) (b : ℕ × Block) → HaveNoMain (claim_flow p b)
  none_flow p b =
      none_joined (when (p.again b.0) (Again b.1.label)) _ (none_when (p.again b.0) (Again b.1.label) refl)
      (none_joined (when (p.leave b.0) (Leave b.1.label)) _ (none_when (p.leave b.0) (Leave b.1.label) refl)
      (none_joined (when (p.fell b.0) (Fell b.1.label)) _ (none_when (p.fell b.0) (Fell b.1.label) refl)
      (none_joined (flat_map (claim_captured p) b.1.insts) (flat_map (claim_spares p b.0) (p.targets b.0))
      (none_flat (claim_captured p) b.1.insts (λ i. none_mapped (λ number. (Captured (id i.result) number, None)) (p.captured i) (λ number. refl)))
      (none_flat (claim_spares p b.0) (p.targets b.0) (λ t. none_mapped (λ number. (Spare (id (label p.function b.0)) (id (label p.function t)) number, None)) (range_with_len 0 (p.spares b.0 t)) (λ number. refl))))))

  -- all claims behind the first
  abbrev behind : List Plan → List Claim
  behind plans =
      flat_map (claim_global s r) s.of.globals ++ (flat_map (claim_function s) plans ++
      flat_map (λ (p : Plan). flat_map (claim_flow p) (enumerate_from 0 p.function.blocks)) plans)

  none_behind : (plans : List Plan) → HaveNoMain (behind plans)
  none_behind plans =
      none_joined (flat_map (claim_global s r) s.of.globals) (flat_map (claim_function s) plans ++ flat_map (λ (p : Plan). flat_map (claim_flow p) (enumerate_from 0 p.function.blocks)) plans)
      (none_flat (claim_global s r) s.of.globals none_global)
      (none_joined (flat_map (claim_function s) plans) (flat_map (λ (p : Plan). flat_map (claim_flow p) (enumerate_from 0 p.function.blocks)) plans)
      (none_flat (claim_function s) plans none_function)
      (none_flat (λ (p : Plan). flat_map (claim_flow p) (enumerate_from 0 p.function.blocks)) plans (λ p. none_flat (claim_flow p) (enumerate_from 0 p.function.blocks) (none_flow p))))

-- the first claim of main gives its name, where no other is of it
no_main : (key : Key) → is_main key ≡ false → same_key key Main ≡ false
no_main Main off = cc
no_main key off = refl

unclaimed : (cs : List ClaimOf) → HaveNoMain (claims_of cs) → is_claimed cs Main ≡ false
unclaimed [] none = refl
unclaimed (c ∷ cs) none = ap (λ (b : Bool). b || is_claimed cs Main) (no_main c.key none.0) ∙ unclaimed cs none.1

first_named : (c : ClaimOf) → c.key ≡ Main → name_of (c ∷ []) Main ≡ Some (codes "main")
unfolding base_of
first_named c key =
    ap (λ (k : Key). if same_key k Main then Some (claim_name none_taken c) else None) key
    ∙ ap (λ (k : Key). Some (base_of k (option_map (λ v. v.items) c.given))) key

main_named : (cs : List ClaimOf) (more : List Claim) → claims_of cs ≡ (Main, None) ∷ more → HaveNoMain more → name_of cs Main ≡ Some (codes "main")
main_named [] more e none = cc
main_named (c ∷ cs) more e none =
    let first = same_first (claim_of c) (Main, None) (claims_of cs) more e in
    let rest = same_rest (claim_of c) (Main, None) (claims_of cs) more e in
    name_before (c ∷ []) cs Main (unclaimed cs (subst HaveNoMain (sym rest) none)) ∙ first_named c (ap (λ (d : Claim). d.0) first)

module _ (m : ModuleState) (o : Options) (unit : TranslationUnit) (u : IsUnitOf m o unit) where
  pub main_is : name_of u.claimed Main ≡ Some (codes "main")
  main_is =
      main_named u.claimed (behind (source_of m o u.entry) (reached_of (source_of m o u.entry) u.plans) (map (claims_by (source_of m o u.entry)) u.plans)) u.claims_are
      (none_behind (source_of m o u.entry) (reached_of (source_of m o u.entry) u.plans) (map (claims_by (source_of m o u.entry)) u.plans))
