pub mod ProgramLines
