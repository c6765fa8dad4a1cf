-- `tick_report::write_nodes`: to write the rest of the nodes from here on is to write all of them from the start.
use Rattle.std.proofs.Common.{◌≡◌, ◌+◌, ◌≤◌, length, drop}
use Rattle.std.proofs.lemmas.List.Edits.{sets}
use Rattle.tick_report.specs.Report.{nodes_of}
use Rattle.tick_report.proofs.write_nodes.Given as goal

abbrev pub invariant-loop-node : goal.invariant-loop-node
invariant-loop-node l = record {
  in_range : l.n ≤ l.node-index;
  counted : l.n + length (nodes_of l.marks l.absent (drop l.node-index l.report)) ≡ length (nodes_of l.marks l.absent l.report);
  written : sets l.nodes l.n (nodes_of l.marks l.absent (drop l.node-index l.report)) ≡ sets l.initial.nodes 0 (nodes_of l.marks l.absent l.report);
}
