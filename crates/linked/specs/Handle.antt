-- An engine in memory that a host keeps. Assumes nothing.
use Rattle.engine.specs.declared.engine.Engine.{Engine}
use Rattle.linked.specs.declared.handle.Handle.{Handle}

-- the handle, where it was, with this engine behind it
abbrev pub holding : Handle → Engine → Handle
holding h e = record h { engine = e }
