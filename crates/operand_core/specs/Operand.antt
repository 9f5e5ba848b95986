-- What is asked of `csplit`: its operands (POSIX.1-2017, XCU csplit, OPERANDS). A pattern is seen as its tree.
pub use Rattle.operand_core.specs.declared.operand.{
  Offset.{Offset, TheVariants.{Plus, Minus}},
  Target.{Target, TheVariants.{Number, Search}},
  Times.{Times, TheVariants.{Count, Endless}},
  Operand.Operand,
}
