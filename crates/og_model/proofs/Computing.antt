-- What has to be opened so that the meaning of a tree that is written out computes: an example is proved by `refl` under
-- `unfolding trees`.
use Rattle.std.specs.Prelude.{⊤}
use Rattle.og_types.specs.declared.Value.{out-Value, roll-Value}
use Rattle.og_types.specs.declared.Value.TheBlock as Values
use Rattle.og_model.specs.declared.Node.{out-Node, roll-Node}
use Rattle.og_model.specs.declared.Select.{out-Select, roll-Select}
use Rattle.og_model.specs.declared.Node.TheBlock as Nodes
use Rattle.og_model.specs.declared.Action.{out-Action, roll-Action}
use Rattle.og_model.specs.declared.Block.{out-Block, roll-Block}
use Rattle.og_model.specs.declared.Branch.{out-Branch, roll-Branch}
use Rattle.og_model.specs.declared.Action.TheBlock as Blocks
use Rattle.og_model.specs.declared.StateKind.{out-StateKind, roll-StateKind}
use Rattle.og_model.specs.declared.Scope.{out-Scope, roll-Scope}
use Rattle.og_model.specs.declared.Partition.{out-Partition, roll-Partition}
use Rattle.og_model.specs.declared.StateKind.TheBlock as Scopes
use Rattle.og_model.specs.Expressions.{eval, walk}
use Rattle.og_model.specs.Actions.{tail_in}
use Rattle.og_model.specs.Run.{sdl}
use denote.Hole.Carrier
use denote.Hole.Rolled

unfoldable pub trees : ⊤
unfolding sdl eval walk tail_in Carrier.out Carrier.roll Carrier.shown Carrier.hidden Carrier.fold Rolled.depth out-Value roll-Value Values.the_depth Values.shape-the_row-Value-0 Values.hidden-the_row-Value-0 Values.shown-the_row-Value-0 Values.shape-the_row-Value-1 Values.hidden-the_row-Value-1 Values.shown-the_row-Value-1 out-Node roll-Node out-Select roll-Select Nodes.the_depth Nodes.shape-the_row-Select-0 Nodes.hidden-the_row-Select-0 Nodes.shown-the_row-Select-0 Nodes.shape-the_row-Expr-1 Nodes.hidden-the_row-Expr-1 Nodes.shown-the_row-Expr-1 Nodes.shape-the_row-Expr-2 Nodes.hidden-the_row-Expr-2 Nodes.shown-the_row-Expr-2 out-Action roll-Action out-Block roll-Block out-Branch roll-Branch Blocks.the_depth Blocks.shape-the_row-Step-1 Blocks.hidden-the_row-Step-1 Blocks.shown-the_row-Step-1 Blocks.shape-the_row-Branch-0 Blocks.hidden-the_row-Branch-0 Blocks.shown-the_row-Branch-0 out-StateKind roll-StateKind out-Scope roll-Scope out-Partition roll-Partition Scopes.the_depth Scopes.shape-the_row-StateDef-1 Scopes.hidden-the_row-StateDef-1 Scopes.shown-the_row-StateDef-1 Scopes.shape-the_row-Partition-0 Scopes.hidden-the_row-Partition-0 Scopes.shown-the_row-Partition-0
trees = tt
