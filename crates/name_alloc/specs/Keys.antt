-- Keys: when two are one, and what is hashed of each.
use Rattle.std.specs.Prelude.{◌==◌, ◌&&◌, ◌++◌, Bool, true, false, []}
use Rattle.std.specs.Hash as fed
use Rattle.std.specs.Hash.{HashWrites}
use Rattle.name_alloc.specs.declared.claims.Key.{Key}
use Rattle.name_alloc.specs.declared.claims.Key.TheVariants.{Main, Id, Block, Member, Again, Leave, Fell, Captured, Spare}

-- two keys are one
abbrev pub same_key : Key → Key → Bool
same_key Main Main = true
same_key (Id a) (Id b) = a.0 == b.0
same_key (Block a b) (Block c d) = a.0 == c.0 && b.0 == d.0
same_key (Member a b) (Member c d) = a.0 == c.0 && b == d
same_key (Again a) (Again b) = a.0 == b.0
same_key (Leave a) (Leave b) = a.0 == b.0
same_key (Fell a) (Fell b) = a.0 == b.0
same_key (Captured a b) (Captured c d) = a.0 == c.0 && b == d
same_key (Spare a b c) (Spare d e f) = a.0 == d.0 && (b.0 == e.0 && c == f)
same_key _ _ = false

-- the numbers of a key
abbrev pub hashed : Key → HashWrites
hashed Main = []
hashed (Id id) = fed.u32 id.0
hashed (Block variable struct) = fed.u32 variable.0 ++ fed.u32 struct.0
hashed (Member struct member) = fed.u32 struct.0 ++ fed.u32 member
hashed (Again label) = fed.u32 label.0
hashed (Leave label) = fed.u32 label.0
hashed (Fell label) = fed.u32 label.0
hashed (Captured chain number) = fed.u32 chain.0 ++ fed.u32 number
hashed (Spare from to number) = fed.u32 from.0 ++ (fed.u32 to.0 ++ fed.u32 number)
