-- Systems, blocks and processes (Z.102 clauses 9 and 10; Z.106), production by production: of which tokens a tree is the tree.
-- `IsBlock b tokens rest` says that the tokens begin with a block whose tree is `b`, and that `rest` stands behind it. A file is any
-- number of units.
use Rattle.std.specs.Prelude.{◌≡◌, ℕ, List, [], ◌∷◌, Option, Some, None}
use Rattle.og_lexer.specs.declared.Keyword.TheVariants as word
use Rattle.og_lexer.specs.declared.Mark.TheVariants as mark
use Rattle.og_lexer.specs.declared.Spanned.{Spanned}
use Rattle.og_ast.specs.declared.system.Unit.{Unit as UnitTree}
use Rattle.og_ast.specs.declared.system.Unit.TheVariants as unit
use Rattle.og_ast.specs.declared.system.UseTree.{UseTree}
use Rattle.og_ast.specs.declared.system.SystemTree.{SystemTree}
use Rattle.og_ast.specs.declared.system.SystemPart.{SystemPart}
use Rattle.og_ast.specs.declared.system.SystemPart.TheVariants as piece
use Rattle.og_ast.specs.declared.system.BlockTree.{BlockTree}
use Rattle.og_ast.specs.declared.system.BlockPart.{BlockPart}
use Rattle.og_ast.specs.declared.system.BlockPart.TheVariants as part
use Rattle.og_ast.specs.declared.system.SignalTree.{SignalTree}
use Rattle.og_ast.specs.declared.system.SigTree.{SigTree}
use Rattle.og_ast.specs.declared.system.ChannelTree.{ChannelTree}
use Rattle.og_ast.specs.declared.system.RouteTree.{RouteTree}
use Rattle.og_ast.specs.declared.system.PathTree.{PathTree}
use Rattle.og_ast.specs.declared.system.PointTree.{PointTree}
use Rattle.og_ast.specs.declared.system.PointTree.TheVariants as point
use Rattle.og_ast.specs.declared.system.LinkTree.{LinkTree}
use Rattle.og_ast.specs.declared.system.ProcessTree.{ProcessTree}
use Rattle.og_ast.specs.declared.system.ReferenceTree.{ReferenceTree}
use Rattle.og_ast.specs.declared.system.CountTree.{CountTree}
use Rattle.og_sdl.specs.declared.table.TheConstants.{SDL}
use Rattle.og_reading.specs.Fronts.{Text, Reserved, Sign, Named, Word, Passed, Digits, ◌▸◌, optional, each, separated, in_brackets}
use Rattle.og_reading.specs.Sentences.{IsText}
use Rattle.og_parse_body.specs.Grammar.{IsHname, IsEnd, AreNames, IsProcedure}
use Rattle.og_parse_state.specs.Grammar.{IsClosed, IsInner}

-- ---- what leads to processes

-- use = USE hname [ COMMENT text ] ";" .
abbrev pub IsUse : UseTree → Text
IsUse u = Reserved word.Use u.place ▸ IsHname u.«module» ▸ IsEnd u.«end»

-- sig = name [ "(" hname { "," hname } ")" ] .
abbrev pub IsSig : SigTree → Text
IsSig s = Named s.name ▸ in_brackets IsHname s.sorts

-- signal = SIGNAL sig { "," sig } end .
abbrev pub IsSignal : SignalTree → Text
IsSignal s = Reserved word.Signal s.place ▸ separated IsSig s.signals ▸ IsEnd s.«end»

-- point = ENV | name .
abbrev pub IsPoint : PointTree → Text
IsPoint (point.Env place) = Reserved word.Env place
IsPoint (point.Name name) = Named name

-- path = FROM point TO point WITH names end .
abbrev pub IsPath : PathTree → Text
IsPath p = Reserved word.From p.place ▸ IsPoint p.from ▸ Word word.To ▸ IsPoint p.to ▸ Word word.With ▸ AreNames p.signals ▸ IsEnd p.«end»

-- path { path }
abbrev pub ArePaths : List PathTree → Text
ArePaths [] tokens rest = ⊥
ArePaths (p ∷ ps) tokens rest = (IsPath p ▸ each IsPath ps) tokens rest

-- channel = CHANNEL name path { path } ENDCHANNEL [ name ] end .
abbrev pub IsChannel : ChannelTree → Text
IsChannel c = Reserved word.Channel c.place ▸ Named c.name ▸ ArePaths c.paths ▸ IsClosed word.Endchannel c.closing

-- route = SIGNALROUTE name path { path } .
abbrev pub IsRoute : RouteTree → Text
IsRoute r = Reserved word.Signalroute r.place ▸ Named r.name ▸ ArePaths r.paths

-- link = CONNECT names AND names end .
abbrev pub IsLink : LinkTree → Text
IsLink l = Reserved word.Connect l.place ▸ AreNames l.channels ▸ Word word.And ▸ AreNames l.routes ▸ IsEnd l.«end»

-- ---- processes

-- count = "(" number "," number ")" .
abbrev pub IsCount : CountTree → Text
IsCount c = Sign mark.LeftParenthesis c.place ▸ Digits c.initial ▸ Passed mark.Comma ▸ Digits c.most ▸ Passed mark.RightParenthesis

-- reference = PROCESS name [ count ] REFERENCED end .
abbrev pub IsReference : ReferenceTree → Text
IsReference r = Reserved word.Process r.place ▸ Named r.name ▸ optional IsCount r.count ▸ Word word.Referenced ▸ IsEnd r.«end»

-- process = PROCESS name [ count ] end { inner } ENDPROCESS [ name ] end .
abbrev pub IsProcess : ProcessTree → Text
IsProcess p = Reserved word.Process p.place ▸ Named p.name ▸ optional IsCount p.count ▸ IsEnd p.«end» ▸ each IsInner p.parts ▸ IsClosed word.Endprocess p.closing

-- ---- blocks, systems and files

-- signal | route | link | process | reference
abbrev pub IsBlockPart : BlockPart → Text
IsBlockPart (part.Signal s) = IsSignal s
IsBlockPart (part.Route r) = IsRoute r
IsBlockPart (part.Link l) = IsLink l
IsBlockPart (part.Process p) = IsProcess p
IsBlockPart (part.Reference r) = IsReference r

-- block = BLOCK name end { signal | route | link | process | reference } ENDBLOCK [ name ] end .
abbrev pub IsBlock : BlockTree → Text
IsBlock b = Reserved word.Block b.place ▸ Named b.name ▸ IsEnd b.«end» ▸ each IsBlockPart b.parts ▸ IsClosed word.Endblock b.closing

-- use | signal | channel | procedure | block
abbrev pub IsSystemPart : SystemPart → Text
IsSystemPart (piece.Use u) = IsUse u
IsSystemPart (piece.Signal s) = IsSignal s
IsSystemPart (piece.Channel c) = IsChannel c
IsSystemPart (piece.Procedure p) = IsProcedure p
IsSystemPart (piece.Block b) = IsBlock b

-- system = SYSTEM name end { use | signal | channel | procedure | block } ENDSYSTEM [ name ] end .
abbrev pub IsSystem : SystemTree → Text
IsSystem s = Reserved word.System s.place ▸ Named s.name ▸ IsEnd s.«end» ▸ each IsSystemPart s.parts ▸ IsClosed word.Endsystem s.closing

-- use | system | process
abbrev pub IsUnit : UnitTree → Text
IsUnit (unit.Use u) = IsUse u
IsUnit (unit.System s) = IsSystem s
IsUnit (unit.Process p) = IsProcess p

-- file = { use | system | process } .
abbrev pub IsFile : List UnitTree → Text
IsFile = each IsUnit

-- the tokens are those of a file of these units, without a violation of class S
abbrev pub AreUnits : List UnitTree → List Spanned → Type 0
AreUnits units tokens = IsText SDL IsFile units tokens
