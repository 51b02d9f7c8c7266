-- A table of nodes, as contracts see it.
use Rattle.std.specs.Prelude.{ℕ, List}
use Rattle.node_table.specs.declared.table.Node.{Node}

pub record Table (T : Type 0) : Type 0 where
  pub nodes : List (Node T)
  -- how many more fit into the memory that it holds
  pub spare : ℕ
