-- The world that the state of a program stands for.
use Rattle.bw_core.specs.World.{World}
use Rattle.bw_world.specs.declared.state.State.TheInside.{Inside}

abbrev pub view_of : Inside → World
view_of s = record {
  first = s.first.items;
  floor = s.floor;
  records = s.records;
  piece = s.piece;
  spares = s.spares.items;
  next = s.next;
  heads = s.heads.items;
  links = s.links.items;
  books = s.books.items;
}
